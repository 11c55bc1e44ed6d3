-- The state of a scan of a bundle in its bytes, and the ways on and out.
use Prim.Native.Nat.{ℕ, ◌+◌, ◌*◌, ◌%◌, ◌<◌, ◌≤◌}
use mathlib.Core.Path.{◌≡◌, refl, sym, ap, subst, ◌∙◌}
use mathlib.Core.Bool.{Bool, true, false, false≢true}
use mathlib.Core.Option.{Option, none, some}
use mathlib.Core.List.{List, [], ◌∷◌, ◌++◌}
use native.Mathlib.Omega.{arith}
use lib.ListN.{length, get_or, drop, set, length-set, length-drop, length-append}
use lib.Seq.{get_or-drop, drop-drop, get_or-set_other}
use lib.Dec.{ltb}
use Rattle.folds.specs.Folds.{pick}
use Rattle.folds.specs.Answers.{value, refused}
use Rattle.folds.proofs.Tests.{ltb-same, not-value}
use Rattle.numbers.specs.Number.{number_at}
use Rattle.numbers.proofs.Laws.{number_at-drop}
use Rattle.commands.specs.Commands.{Outcome, refuse, go, verdict, judge_kind, judge}
use Rattle.commands.specs.Reading.{Going}
use Rattle.commands.proofs.Going.{comes, starts, goes, refuses, ends}
use Rattle.sheet.specs.Sheet.{Sheet}
use Rattle.bundle.specs.Bundle.{Command, run, send, receive, release, discard, Bundle, programme_count}
use Rattle.bundle.specs.Format.{Kind, opening, running, sending, receiving, releasing, discarding, claiming, kind_of, width, within, after, closes, ended, bundle_format, read_bundle}
use Rattle.bundle.specs.Counts.{Sized, fault_below, limit_of, count_format, commands_in, command_count}
use Rattle.bundle.specs.Lies.{size_of, Stands, Laid}
use Rattle.bundle.specs.Sizes.{short_size, long_size}
use Rattle.bundle.specs.Kinds.{is_message, is_task, OfLink, sends, receives, discards, OfTask, runs, releases}
use Rattle.bundle_reader.specs.Answers.{outline, outline_of, reading_of, closed_of, kind_next, next_of, judged_of}
use Rattle.bundle_reader.specs.ReadIs.{ReadIs}
use Rattle.bundle_reader.specs.declared.bytes.Next.{Next}
use Rattle.bundle_reader.specs.declared.bytes.Next.TheVariants.{Step, Open, Claim}
use Rattle.bundle_reader.specs.declared.bytes.Outline.{Outline}
use Rattle.refusals.specs.Refusals.{number, numbered, refusal, fault_of, placed}
use Rattle.refusals.specs.declared.Refusal.{Refusal}
use Rattle.refusals.specs.declared.Fault.{Fault}
use Rattle.refusals.proofs.Results.{fault-by}
use Rattle.std.specs.Prelude.{⊤, Result, Ok, Err}
use Rattle.bundle.proofs.Parts.{byte_of, kind-byte, open-facts, task-facts, link-facts, length-within, width_some}
use Rattle.bundle.proofs.Rounds.{clear_of, ended-value}
use Rattle.bundle.proofs.Faults.{judge-sized, sheet_by, sized-by, fault-link, fault-task, message-kind, task-kind, strange-kind, judge-kind}
use Rattle.bundle.proofs.Lying.{Laying, laying-command, laying-open, laying-claim, laying-none}

pub commands-within : (ps : List (List Command)) (c : Command) → 0 < length ps → commands_in (within ps c) ≡ commands_in ps + 1
commands-within [] c h = absurd (omega arith)
commands-within (p ∷ []) c h = omega (arith, length-append p (c ∷ []))
commands-within (p ∷ q ∷ ps) c h = omega (arith, commands-within (q ∷ ps) c (omega arith))

pub commands-open : (ps : List (List Command)) → commands_in (ps ++ [] ∷ []) ≡ commands_in ps
commands-open [] = refl
commands-open (p ∷ ps) = ap (λ (n : ℕ). length p + n) (commands-open ps)

-- the commands that stand in a programme
abbrev pub steps : Kind → Bool
steps opening = false
steps running = true
steps sending = true
steps receiving = true
steps releasing = true
steps discarding = true
steps claiming = false

abbrev command_from : Kind → List ℕ → Command
command_from opening b = run 0
command_from running b = run (get_or b 0 0)
command_from sending b = send (number_at 2 b 0)
command_from receiving b = receive (number_at 2 b 0)
command_from releasing b = release (get_or b 0 0)
command_from discarding b = discard (number_at 2 b 0)
command_from claiming b = run 0

steps_on : (k : Kind) → steps k ≡ true → closes k ≡ false
steps_on opening e = refl
steps_on running e = refl
steps_on sending e = refl
steps_on receiving e = refl
steps_on releasing e = refl
steps_on discarding e = refl
steps_on claiming e = absurd (false≢true e)

steps-after : (k : Kind) → steps k ≡ true → (ps : List (List Command)) (b : List ℕ) → after ps k b ≡ within ps (command_from k b)
steps-after opening e ps b = absurd (false≢true e)
steps-after running e ps b = refl
steps-after sending e ps b = refl
steps-after receiving e ps b = refl
steps-after releasing e ps b = refl
steps-after discarding e ps b = refl
steps-after claiming e ps b = absurd (false≢true e)

steps-size : (k : Kind) → steps k ≡ true → (b : List ℕ) → size_of (command_from k b) ≡ 1 + width k
steps-size opening e b = absurd (false≢true e)
steps-size running e b = refl
steps-size sending e b = refl
steps-size receiving e b = refl
steps-size releasing e b = refl
steps-size discarding e b = refl
steps-size claiming e b = absurd (false≢true e)

module _ {s : Sheet} {p t l : ℕ} (z : Sized s p t l) (ps : List (List Command)) (b : List ℕ) (at : ℕ) where
  byte-here : (k : Kind) → judge (bundle_format s) ps (drop at b) ≡ go k → get_or b at 0 ≡ byte_of k
  byte-here k j =
      let m = comes (bundle_format s) ps (drop at b) k j in
      let e : at + 0 ≡ at = omega arith in
      sym (get_or-drop at b 0 0 ∙ ap (λ (i : ℕ). get_or b i 0) e) ∙ kind-byte (get_or (drop at b) 0 0) k m.kind

  -- the command's bytes are there
  room-here : (k : Kind) → judge (bundle_format s) ps (drop at b) ≡ go k → at + (1 + width k) ≤ length b
  room-here k j =
      omega (arith, (comes (bundle_format s) ps (drop at b) k j).more, (clear_of s ps (drop at b) k j).room, length-drop 1 (drop at b), length-drop at b)

  operand-here : get_or b (at + 1) 0 ≡ get_or (drop 1 (drop at b)) 0 0
  operand-here = let e : at + (1 + 0) ≡ at + 1 = omega arith in sym (get_or-drop 1 (drop at b) 0 0 ∙ get_or-drop at b (1 + 0) 0 ∙ ap (λ (i : ℕ). get_or b i 0) e)

  number-here : (w : ℕ) → number_at w b (at + 1) ≡ number_at w (drop 1 (drop at b)) 0
  number-here w =
      let e : at + (1 + 0) ≡ at + 1 = omega arith in
      sym (number_at-drop w 1 (drop at b) 0 ∙ number_at-drop w at b (1 + 0) ∙ ap (λ (i : ℕ). number_at w b i) e)

  -- a command that passes stands at its offset, in a programme that is open
  stands_here : (k : Kind) → steps k ≡ true → judge (bundle_format s) ps (drop at b) ≡ go k → (0 < length ps) × Stands t l b at (command_from k (drop 1 (drop at b)))
  stands_here opening e j = absurd (false≢true e)
  stands_here running e j =
      let f = task-facts s ps (drop 1 (drop at b)) runs (clear_of s ps (drop at b) running j) in
      (f.0, (byte-here running j, operand-here, omega (arith, f.2, z.tasks), room-here running j))
  stands_here sending e j =
      let f = link-facts s ps (drop 1 (drop at b)) sends (clear_of s ps (drop at b) sending j) in
      (f.0, (byte-here sending j, number-here 2, omega (arith, f.2, z.links), room-here sending j))
  stands_here receiving e j =
      let f = link-facts s ps (drop 1 (drop at b)) receives (clear_of s ps (drop at b) receiving j) in
      (f.0, (byte-here receiving j, number-here 2, omega (arith, f.2, z.links), room-here receiving j))
  stands_here releasing e j =
      let f = task-facts s ps (drop 1 (drop at b)) releases (clear_of s ps (drop at b) releasing j) in
      (f.0, (byte-here releasing j, operand-here, omega (arith, f.2, z.tasks), room-here releasing j))
  stands_here discarding e j =
      let f = link-facts s ps (drop 1 (drop at b)) discards (clear_of s ps (drop at b) discarding j) in
      (f.0, (byte-here discarding j, number-here 2, omega (arith, f.2, z.links), room-here discarding j))
  stands_here claiming e j = absurd (false≢true e)

-- for one sheet: the programmes read so far, and that reading on gives the whole answer
pub record Scanning (s : Sheet) (b : List ℕ) (t l : ℕ) (w : List ℕ) (n m at : ℕ) : Type 0 where
  pub ps : List (List Command)
  pub count : length ps ≡ n
  pub total : commands_in ps ≡ m
  pub going : Going (bundle_format s) (read_bundle s b) ps at (drop at b)
  pub laying : length b < 4294967296 → Laying t l b w ps at

module _ {s : Sheet} {b : List ℕ} {p t l : ℕ} {w : List ℕ} {n m at : ℕ} (z : Sized s p t l) (g : Scanning s b t l w n m at) where
  -- the outcome by the counts is the outcome for the sheet
  judged : (o : Outcome Kind) → judge (count_format p t l) n (drop at b) ≡ o → judge (bundle_format s) g.ps (drop at b) ≡ o
  judged o j = judge-sized z g.ps n g.count (drop at b) ∙ j

  on : (k : Kind) → closes k ≡ false → judge (count_format p t l) n (drop at b) ≡ go k
      → Going (bundle_format s) (read_bundle s b) (after g.ps k (drop 1 (drop at b))) (at + (1 + width k)) (drop (at + (1 + width k)) b)
  on k c j =
      subst (λ (d : List ℕ). Going (bundle_format s) (read_bundle s b) (after g.ps k (drop 1 (drop at b))) (at + (1 + width k)) d) (drop-drop (1 + width k) at b)
      (goes (bundle_format s) g.going k c (judged (go k) j))

  scanning-step : (k : Kind) → steps k ≡ true → judge (count_format p t l) n (drop at b) ≡ go k → Scanning s b t l w n (m + 1) (at + (1 + width k))
  scanning-step k e j =
      let ops = drop 1 (drop at b) in
      let x = command_from k ops in
      let h = stands_here z g.ps b at k e (judged (go k) j) in
      record {
        ps = within g.ps x;
        count = length-within g.ps x ∙ g.count;
        total = commands-within g.ps x h.0 ∙ ap (λ (i : ℕ). i + 1) g.total;
        going =
            subst (λ (q : List (List Command)). Going (bundle_format s) (read_bundle s b) q (at + (1 + width k)) (drop (at + (1 + width k)) b))
            (steps-after k e g.ps ops) (on k (steps_on k e) j);
        laying = λ small. subst (λ (i : ℕ). Laying t l b w (within g.ps x) (at + i)) (steps-size k e ops) (laying-command t l b w g.ps at (g.laying small) x h.1);
      }

  scanning-open : n < length w → at ≤ length b → judge (count_format p t l) n (drop at b) ≡ go opening → Scanning s b t l (set w n (at % 4294967296)) (n + 1) m (at + 2)
  scanning-open long r j =
      record {
        ps = g.ps ++ [] ∷ [];
        count = length-append g.ps ([] ∷ []) ∙ ap (λ (i : ℕ). i + 1) g.count;
        total = commands-open g.ps ∙ g.total;
        going = on opening refl j;
        laying = λ small.
            subst (λ (i : ℕ). Laying t l b (set w i (at % 4294967296)) (g.ps ++ [] ∷ []) (at + 2)) g.count
            (laying-open t l b w g.ps at (g.laying small) (at % 4294967296) (omega (arith, r)) (omega (arith, g.count)));
      }

  scanning-refused : (r : ℕ) → judge (count_format p t l) n (drop at b) ≡ refuse r → read_bundle s b ≡ refused r at
  scanning-refused r j = refuses (bundle_format s) g.going r (judged (refuse r) j)

  ended_here : judge (count_format p t l) n (drop at b) ≡ go claiming → read_bundle s b ≡ ended g.ps at (drop 1 (drop at b))
  ended_here j = ends (bundle_format s) g.going claiming refl (judged (go claiming) j)

  scanning-claim : judge (count_format p t l) n (drop at b) ≡ go claiming → closed_of b at n m ≡ reading_of (read_bundle s b)
  unfolding closed_of ended outline_of programme_count command_count
  scanning-claim j =
      let r = room-here z g.ps b at claiming (judged (go claiming) j) in
      let d : length (drop 1 (drop at b)) + (at + 1) ≡ length b = omega (arith, r, length-drop 1 (drop at b), length-drop at b) in
      let e : ltb (at + 5) (length b) ≡ ltb 4 (length (drop 1 (drop at b))) = ltb-same (at + 5) (length b) 4 (length (drop 1 (drop at b))) (λ h. omega arith) (λ h. omega arith) in
      rw (e, number-here z g.ps b at 4, ← g.count, ← g.total) (by (ltb 4 (length (drop 1 (drop at b)))) refl) ∙ sym (ap reading_of (ended_here j))
    where
      by : (q : Bool) → ltb 4 (length (drop 1 (drop at b))) ≡ q
          → pick q (Err (refusal 24 (at + 5))) (Ok (outline (length g.ps) (commands_in g.ps) (number_at 4 (drop 1 (drop at b)) 0))) ≡ reading_of (ended g.ps at (drop 1 (drop at b)))
      by true q = rw q
      by false q = rw q

  scanning-laid : n < length w → judge (count_format p t l) n (drop at b) ≡ go claiming → length b < 4294967296 → (x : Bundle) → read_bundle s b ≡ value x
      → Laid t l b (set w n (at % 4294967296)) x.programmes
  scanning-laid long j small x e =
      let f = ended-value g.ps at (drop 1 (drop at b)) x (sym (ended_here j) ∙ e) in
      let r = room-here z g.ps b at claiming (judged (go claiming) j) in
      let q : at + 5 ≡ length b = omega (arith, r, f.0, length-drop 1 (drop at b), length-drop at b) in
      let here : Laid t l b (set w n (at % 4294967296)) g.ps =
      subst (λ (i : ℕ). Laid t l b (set w i (at % 4294967296)) g.ps) g.count
      (laying-claim t l b w g.ps at (g.laying small) (at % 4294967296) (omega (arith, r)) (omega (arith, g.count)) q)
      in
      subst (λ (y : Bundle). Laid t l b (set w n (at % 4294967296)) y.programmes) (sym f.1) here

-- for every sheet with these counts
pub record Scan (b : List ℕ) (p t l : ℕ) (v w : List ℕ) (n m at : ℕ) : Type 0 where
  pub room : at ≤ length b
  pub few : n ≤ p
  pub counted : 2 * (n + m) ≤ at
  pub long : length w ≡ length v
  pub rest : (i : ℕ) → p < i → get_or w i 0 ≡ get_or v i 0
  pub each : (s : Sheet) → Sized s p t l → Scanning s b t l w n m at

pub scan-starts : (b : List ℕ) (p t l : ℕ) (v : List ℕ) → Scan b p t l v v 0 0 0
unfolding read_bundle
scan-starts b p t l v =
    record {
      room = omega arith;
      few = omega arith;
      counted = omega arith;
      long = refl;
      rest = λ i h. refl;
      each = λ s z. record { ps = []; count = refl; total = refl; going = starts (bundle_format s) [] b; laying = λ i. laying-none t l b v };
    }

module _ {b : List ℕ} {p t l : ℕ} {v w : List ℕ} {n m at : ℕ} (g : Scan b p t l v w n m at) where
  -- what holds for some sheet with these counts
  some-room : (k : Kind) → judge (count_format p t l) n (drop at b) ≡ go k → at + (1 + width k) ≤ length b
  some-room k j =
      let z = sized-by p t l in
      let h = g.each (sheet_by p t l) z in
      room-here z h.ps b at k (judged z h (go k) j)

  pub scan_step : (k : Kind) → steps k ≡ true → judge (count_format p t l) n (drop at b) ≡ go k → Scan b p t l v w n (m + 1) (at + (1 + width k))
  scan_step k e j =
      record {
        room = some-room k j;
        few = g.few;
        counted = omega (arith, g.counted, width_some k);
        long = g.long;
        rest = g.rest;
        each = λ s z. scanning-step z (g.each s z) k e j;
      }

  pub scan-open-room : judge (count_format p t l) n (drop at b) ≡ go opening → (at + 2 ≤ length b) × (n < p)
  scan-open-room j =
      let z = sized-by p t l in
      let h = g.each (sheet_by p t l) z in
      let f = open-facts (sheet_by p t l) h.ps (drop 1 (drop at b)) (clear_of (sheet_by p t l) h.ps (drop at b) opening (judged z h (go opening) j)) in
      (some-room opening j, omega (arith, f.2, h.count))

  pub scan-open : p < length v → judge (count_format p t l) n (drop at b) ≡ go opening → Scan b p t l v (set w n (at % 4294967296)) (n + 1) m (at + 2)
  scan-open wide j =
      let r = scan-open-room j in
      record {
        room = r.0;
        few = omega (arith, r.1);
        counted = omega (arith, g.counted);
        long = length-set w n (at % 4294967296) ∙ g.long;
        rest = λ i h. get_or-set_other w n i (at % 4294967296) 0 (λ q. omega (arith, g.few)) ∙ g.rest i h;
        each = λ s z. scanning-open z (g.each s z) (omega (arith, g.few, g.long)) g.room j;
      }

  pub scan-room : judge (count_format p t l) n (drop at b) ≡ go claiming → at + 5 ≤ length b
  scan-room j = some-room claiming j

  pub scan-refused : (r : ℕ) → judge (count_format p t l) n (drop at b) ≡ refuse r → ReadIs b p t l v w (Err (refusal r at))
  scan-refused r j =
      record {
        answer = λ s z. sym (ap reading_of (scanning-refused z (g.each s z) r j));
        laid = λ s z small x e. not-value (sym (scanning-refused z (g.each s z) r j) ∙ e);
        long = g.long;
        rest = g.rest;
        fits = λ o e. absurd cc;
      }

  closed-fits : judge (count_format p t l) n (drop at b) ≡ go claiming → (o : Outline) → closed_of b at n m ≡ Ok o → 2 * (o.programmes + o.commands) + 5 ≤ length b
  unfolding closed_of
  closed-fits j o e = by (ltb (at + 5) (length b)) e
    where
      by : (t : Bool) → pick t (Err (refusal 24 (at + 5))) (Ok (outline n m (number_at 4 b (at + 1)))) ≡ Ok o → 2 * (o.programmes + o.commands) + 5 ≤ length b
      by true f = absurd cc
      by false f =
          let q : outline n m (number_at 4 b (at + 1)) ≡ o = cc in
          let x : n ≡ o.programmes = ap (λ (y : Outline). y.programmes) q in
          let z : m ≡ o.commands = ap (λ (y : Outline). y.commands) q in
          omega (arith, g.counted, scan-room j)

  pub scan-claim : p < length v → judge (count_format p t l) n (drop at b) ≡ go claiming → (r : Result Outline Refusal) → r ≡ closed_of b at n m → ReadIs b p t l v (set w n (at % 4294967296)) r
  scan-claim wide j r q =
      record {
        answer = λ s z. q ∙ scanning-claim z (g.each s z) j;
        laid = λ s z small x e. scanning-laid z (g.each s z) (omega (arith, g.few, g.long)) j small x e;
        long = length-set w n (at % 4294967296) ∙ g.long;
        rest = λ i h. get_or-set_other w n i (at % 4294967296) 0 (λ q. omega (arith, g.few)) ∙ g.rest i h;
        fits = λ o e. closed-fits j o (sym q ∙ e);
      }

-- the next command by what the code tests: its byte x, and the number r of its fault
module _ (p t l n : ℕ) (b : List ℕ) (at : ℕ) (more : at < length b) (x : ℕ) (here : x ≡ get_or b at 0) where
  kind-next : (o : Option Kind) → kind_of x ≡ o → next_of (judge_kind (count_format p t l) n o (drop (at + 1) b)) ≡ next_of (judge (count_format p t l) n (drop at b))
  kind-next o e = sym (ap next_of (judge-kind p t l n b at more o (ap kind_of (sym here) ∙ e)))

  verdict-next : (k : Kind) (r : Result ⊤ Fault) → judged_of r (kind_next k) ≡ next_of (verdict (count_format p t l) k (fault_of r))
  verdict-next k (Ok y) = refl
  verdict-next k (Err n) = refl

  pub known_next : (k : Kind) (r : Result ⊤ Fault) → kind_of x ≡ some k → fault_of r ≡ fault_below (limit_of p t l k) n k (drop (at + 1) b) → judged_of r (kind_next k) ≡ next_of (judge (count_format p t l) n (drop at b))
  known_next k r e h = verdict-next k r ∙ ap (λ (o : Option ℕ). next_of (verdict (count_format p t l) k o)) h ∙ kind-next (some k) e

  -- a command of a link, and one of a task
  pub message-next : (r : Result ⊤ Fault) → is_message x ≡ true → fault_of r ≡ fault_below l n sending (drop (at + 1) b) → judged_of r (Step long_size) ≡ next_of (judge (count_format p t l) n (drop at b))
  message-next r e h = let f = message-kind x e in by f.among f.is
    where
      by : {k : Kind} → OfLink k → kind_of x ≡ some k → judged_of r (Step long_size) ≡ next_of (judge (count_format p t l) n (drop at b))
      by sends q = known_next sending r q (h ∙ sym (fault-link sends l n (drop (at + 1) b)))
      by receives q = known_next receiving r q (h ∙ sym (fault-link receives l n (drop (at + 1) b)))
      by discards q = known_next discarding r q (h ∙ sym (fault-link discards l n (drop (at + 1) b)))

  pub task-next : (r : Result ⊤ Fault) → is_task x ≡ true → fault_of r ≡ fault_below t n running (drop (at + 1) b) → judged_of r (Step short_size) ≡ next_of (judge (count_format p t l) n (drop at b))
  task-next r e h = let f = task-kind x e in by f.among f.is
    where
      by : {k : Kind} → OfTask k → kind_of x ≡ some k → judged_of r (Step short_size) ≡ next_of (judge (count_format p t l) n (drop at b))
      by runs q = known_next running r q (h ∙ sym (fault-task runs t n (drop (at + 1) b)))
      by releases q = known_next releasing r q (h ∙ sym (fault-task releases t n (drop (at + 1) b)))

  pub strange-next : is_message x ≡ false → is_task x ≡ false → (x ≡ 0x50 → ⊥) → (x ≡ 0x5A → ⊥) → Err 22 ≡ next_of (judge (count_format p t l) n (drop at b))
  strange-next e f h k = kind-next none (strange-kind x e f h k)

-- a command that stands in a programme, and its length
record Steps (o : Outcome Kind) (size : ℕ) : Type 0 where
  kind : Kind
  inside : steps kind ≡ true
  goes_on : o ≡ go kind
  sized : 1 + width kind ≡ size

-- what the code's answer tells of the outcome
abbrev Tells : Outcome Kind → Result Next ℕ → Type 0
Tells o (Ok (Step size)) = Steps o size
Tells o (Ok Open) = o ≡ go opening
Tells o (Ok Claim) = o ≡ go claiming
Tells o (Err r) = o ≡ refuse r

tells : (o : Outcome Kind) → Tells o (next_of o)
tells (refuse r) = refl
tells (go opening) = refl
tells (go running) = record { kind = running; inside = refl; goes_on = refl; sized = refl }
tells (go sending) = record { kind = sending; inside = refl; goes_on = refl; sized = refl }
tells (go receiving) = record { kind = receiving; inside = refl; goes_on = refl; sized = refl }
tells (go releasing) = record { kind = releasing; inside = refl; goes_on = refl; sized = refl }
tells (go discarding) = record { kind = discarding; inside = refl; goes_on = refl; sized = refl }
tells (go claiming) = refl

-- the ways by the code's answer f
module _ {b : List ℕ} {p t l : ℕ} {v w : List ℕ} {n m at : ℕ} (g : Scan b p t l v w n m at) (f : Result Next Fault) (e : numbered f ≡ next_of (judge (count_format p t l) n (drop at b))) where
  told : (x : Result Next Fault) → f ≡ x → Tells (judge (count_format p t l) n (drop at b)) (numbered x)
  told x q = subst (Tells (judge (count_format p t l) n (drop at b))) (sym e ∙ ap numbered q) (tells (judge (count_format p t l) n (drop at b)))

  pub step-on : (size : ℕ) → f ≡ Ok (Step size) → Scan b p t l v w n (m + 1) (at + size) × (0 < size)
  step-on size q =
      let s = told (Ok (Step size)) q in
      (subst (λ (i : ℕ). Scan b p t l v w n (m + 1) (at + i)) s.sized (scan_step g s.kind s.inside s.goes_on), omega (arith, s.sized))

  pub open-room : f ≡ Ok Open → (at + 2 ≤ length b) × (n < p)
  open-room q = scan-open-room g (told (Ok Open) q)

  pub open-on : p < length v → f ≡ Ok Open → Scan b p t l v (set w n (at % 4294967296)) (n + 1) m (at + 2)
  open-on wide q = scan-open g wide (told (Ok Open) q)

  pub claim-room : f ≡ Ok Claim → at + 5 ≤ length b
  claim-room q = scan-room g (told (Ok Claim) q)

  pub claim-on : p < length v → f ≡ Ok Claim → (r : Result Outline Refusal) → r ≡ closed_of b at n m → ReadIs b p t l v (set w n (at % 4294967296)) r
  claim-on wide q r h = scan-claim g wide (told (Ok Claim) q) r h

  pub refused-at : (r : Refusal) → Err r ≡ placed at f → ReadIs b p t l v w (Err r)
  refused-at r h =
      let q = fault-by at f r h in
      subst (λ (x : Refusal). ReadIs b p t l v w (Err x)) (sym q.is) (scan-refused g (number q.fault) (told (Err q.fault) q.found))
