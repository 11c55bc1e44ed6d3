-- 21 to 26, 31 to 33, 37 and 28 of any bytes, or the fresh state: in the work area, and copied.
use Prim.Native.Nat.{ℕ, ◌+◌, ◌-◌, ◌≤◌, ◌<◌}
use mathlib.Core.Path.{◌≡◌, refl, sym, ap, ◌∙◌, subst}
use mathlib.Core.Option.{Option}
use mathlib.Core.List.{List}
use mathlib.Core.Logic.{inl, inr, ⊎_elim}
use native.Mathlib.Omega.{arith}
use native.Mathlib.Numerals.{add-one}
use lib.ListN.{length, get_or, set, length-set}
use lib.Seq.{get_or-set_same, get_or-set_other}
use borrow.Rule.Slice.PartMut.{mid_of}
use Rattle.folds.specs.Answers.{Answer, value, refused, unless, and_then}
use Rattle.folds.proofs.Tests.{below_suc, and_then-value, not-value}
use Rattle.numbers.specs.Number.{Bytes}
use Rattle.workspace.specs.Area.{fixed}
use Rattle.workspace.specs.Found.{found_of}
use Rattle.workspace.specs.Found.{Found}
use Rattle.std.specs.Prelude.{Some, None}
use Rattle.sheet.specs.Sheet.{Sheet, task_count, link_count}
use Rattle.sheet.specs.Tables.{sheet_in}
use Rattle.graph.specs.Graph.{read_sheet}
use Rattle.graph.proofs.Proper.{read-form}
use Rattle.levelling.specs.Opened as graph
use Rattle.levelling.proofs.Opens.{open-refusal, open-value, open-loaded}
use Rattle.bundle.specs.Bundle.{Bundle, programme_count}
use Rattle.bundle.specs.Format.{read_bundle}
use Rattle.bundle.specs.Counts.{command_count}
use Rattle.bundle.proofs.Rounds.{few-programmes}
use Rattle.admission.specs.Counting.{whole, each}
use Rattle.admission.specs.Messages.{Published}
use Rattle.admission.specs.Fields.{Known, Seen}
use Rattle.admission.specs.Views.{ViewIs, Shown}
use Rattle.admission.specs.Admitted.{published_bytes, admitted, admitted_bytes, judged_of, JudgeIs}
use Rattle.admission.specs.declared.view.View.{View}
use Rattle.std.specs.Prelude.{⊤, Result, Ok, Err}
use Rattle.bundle_reader.specs.Answers.{outline_of}
use Rattle.bundle_reader.specs.declared.bytes.Outline.{Outline}
use Rattle.refusals.specs.Refusals.{refusal}
use Rattle.refusals.specs.declared.Refusal.{Refusal}
use Rattle.admission.proofs.Few.{few-of-read, commands-whole}
use Rattle.admission.proofs.Admits.{read-published, admitted-published, refused-too, stored-then}
use Rattle.admission.proofs.Areas.{part-long, known_in}
use Rattle.admission.proofs.Written.{fields_read}
use Rattle.machine.specs.Machine.{State, fresh_state}
use Rattle.stepping_machine.specs.Layout as lay
use Rattle.stepping_machine.specs.Represents.{Represents, Within}
use Rattle.stepping_machine.specs.Words.{amount_of}
use Rattle.stepping_machine.specs.Loads.{Ready, LaidOut, LoadIs}
use Rattle.stepping_machine.specs.Starts.{AdmitIs, CopyIs, HandIs, BeginIs, OpenIs, starting, started_of, BytesIs}
use Rattle.stepping_machine.proofs.Moves.{decoded-same}

never : {X : Type 0} {u : Outline} {r : Refusal} → ◌≡◌ {A = Result Outline Refusal} (Err r) (Ok u) → X
never z = absurd cc

-- 21 to 26, 31 to 33, 37 and 28
module _ (sheet bundle w u : List ℕ) (v : View) (f : Result Outline Refusal) (h : JudgeIs sheet bundle w u v f) where
  pub admit-refused : (r : Refusal) → f ≡ Err r → AdmitIs sheet bundle w u v (Err r)
  admit-refused r e =
      record {
        long = h.long;
        is = λ s k. by s (published_bytes s bundle) refl (sym e ∙ h.is s k);
        represents = λ s k b q. never (by s (published_bytes s bundle) refl (sym e ∙ h.is s k) ∙ ap judged_of q);
      }
    where
      by : (s : Sheet) (o : Answer Bundle) → published_bytes s bundle ≡ o → Err r ≡ judged_of o → Err r ≡ judged_of (admitted_bytes s bundle)
      by s (value b) q z = never z
      by s (refused i j) q z = z ∙ sym (ap judged_of (refused-too s bundle i j q))

  module _ (out : Outline) (e : f ≡ Ok out) (bytes : Bytes bundle) (long : lay.extent ≤ length w) where
    -- the bundle that was read
    found : (s : Sheet) → Known s sheet v → (b : Bundle) × (published_bytes s bundle ≡ value b) × (Ok out ≡ judged_of (value b))
    found s k = by (published_bytes s bundle) refl (sym e ∙ h.is s k)
      where
        by : (o : Answer Bundle) → published_bytes s bundle ≡ o → Ok out ≡ judged_of o → (b : Bundle) × (published_bytes s bundle ≡ value b) × (Ok out ≡ judged_of (value b))
        by (value b) q z = (b, q, z)
        by (refused i j) q z = never (sym z)

    given : (s : Sheet) → Known s sheet v → (b : Bundle) → published_bytes s bundle ≡ value b → Ok out ≡ judged_of (value b) → LaidOut sheet bundle u v out.programmes s b
    unfolding outline_of
    given s k b q z =
        let p = read-published s bundle b q in
        let few : programme_count b ≤ 16 = few-programmes s bundle b p.0 k.ranged.few_processors in
        record {
          known = k;
          programmes = first_of b z;
          few = few;
          short = few-of-read s bundle b k.ranged.few_tasks k.ranged.few_links few bytes p.0 p.1;
          laid = h.laid s k b q;
          homes = h.homes s k b q;
        }
      where
        first_of : (b : Bundle) → Ok out ≡ judged_of (value b) → programme_count b ≡ out.programmes
        first_of b d = let q : out ≡ outline_of b = cc in sym (ap (λ (x : Outline). x.programmes) q)

    pub ready : Seen sheet v → Ready sheet bundle u v out.programmes
    unfolding programme_count
    ready y =
        let k = y.known in
        let o = found y.board k in
        let g = given y.board k o.0 o.1 o.2 in
        record {
          inside = omega (arith, k.fields.inside, k.links);
          programmes = o.0.programmes;
          count = g.programmes;
          few = omega (arith, g.programmes, g.few);
          laid = rw (k.tasks, k.links) at g.laid;
          long = omega (arith, h.long);
        }

    module _ (last : List ℕ) (r : Found) (a : LoadIs sheet bundle u last v out.programmes r) where
      -- what 28 says
      by-28 : (s : Sheet) → Known s sheet v → (b : Bundle) → published_bytes s bundle ≡ value b → Ok out ≡ judged_of (value b) → admitted_bytes s bundle ≡ unless 28 (found_of r) (value b)
      by-28 s k b q z = stored-then s bundle b q ∙ ap (λ (o : Option ℕ). unless 28 o (value b)) (sym (a.is_28 s b (given s k b q z)))

      pub admit-over : (i : ℕ) → r ≡ Some i → AdmitIs sheet bundle w last v (Err (refusal 28 i))
      admit-over i q =
          record {
            long = a.long ∙ h.long;
            is = told;
            represents = λ s k b z. never (told s k ∙ ap judged_of z);
          }
        where
          told : (s : Sheet) → Known s sheet v → Err (refusal 28 i) ≡ judged_of (admitted_bytes s bundle)
          told s k =
              let o = found s k in
              sym (ap judged_of (by-28 s k o.0 o.1 o.2 ∙ ap (λ (x : Found). unless 28 (found_of x) (value o.0)) q))

      pub admit-fits : r ≡ None → AdmitIs sheet bundle w last v (Ok out)
      admit-fits q =
          record {
            long = a.long ∙ h.long;
            is = λ s k. let o = found s k in o.2 ∙ sym (ap judged_of (there s k o.0 o.1 o.2));
            represents =
                λ s k b z.
                let o = found s k in
                let same : o.0 ≡ b = one (sym (there s k o.0 o.1 o.2) ∙ z) in
                let g = given s k o.0 o.1 o.2 in
                let y = a.represents q s o.0 g in
                let e : lay.commands + whole o.0 each + out.programmes ≡ lay.commands + command_count o.0 + programme_count o.0 = omega (arith, commands-whole o.0, g.programmes) in
                subst (λ (x : Bundle). Represents s x last (fresh_state s x) × Within x last (lay.commands + command_count x + programme_count x)) same (y.0, subst (Within o.0 last) e y.1);
          }
        where
          there : (s : Sheet) → Known s sheet v → (b : Bundle) → published_bytes s bundle ≡ value b → Ok out ≡ judged_of (value b) → admitted_bytes s bundle ≡ value b
          there s k b x z = by-28 s k b x z ∙ ap (λ (y : Found). unless 28 (found_of y) (value b)) q

          one : {x y : Bundle} → ◌≡◌ {A = Answer Bundle} (value x) (value y) → x ≡ y
          one z = cc

-- words copied, one by one
pub copy-starts : (from w : List ℕ) (a : ℕ) → CopyIs from w w a a
copy-starts from w a = record { long = refl; same = λ i k l. absurd (omega arith); other = λ i h. refl }

pub copy_more : (from w u x : List ℕ) (a i : ℕ) → a ≤ i → i < length w → CopyIs from w u a i → x ≡ set u i (get_or from i 0) → CopyIs from w x a (i + 1)
copy_more from w u x a i start below g e =
    let else : (j : ℕ) → (j ≡ i → ⊥) → get_or x j 0 ≡ get_or u j 0 = λ j d. ap (λ (z : List ℕ). get_or z j 0) e ∙ get_or-set_other u i j _ 0 d in
    record {
      long = ap length e ∙ length-set u i _ ∙ g.long;
      same =
          λ j k l.
          ⊎_elim (λ (h : j < i). else j (λ q. omega arith) ∙ g.same j k h)
          (λ (q : j ≡ i). rw q (ap (λ (z : List ℕ). get_or z i 0) e ∙ get_or-set_same u i _ 0 (omega (arith, g.long)))) (below_suc (rw add-one at l));
      other = λ j h. ⊎_elim (λ (q : j < a). else j (λ z. omega arith) ∙ g.other j (inl q)) (λ (q : i + 1 ≤ j). else j (λ z. omega arith) ∙ g.other j (inr (omega arith))) h;
    }

-- the three parts of the words
pub handed : (from w a b last : List ℕ) (l n c : ℕ) → l ≤ 1024 → n ≤ 256 → CopyIs from w a 0 (lay.stamps + l) → CopyIs from a b lay.needs (lay.needs + n) → CopyIs from b last lay.commands (lay.commands + c)
    → HandIs from w last l n (lay.commands + c)
handed from w a b last l n c fl fn p q r =
    record {
      long = r.long ∙ q.long ∙ p.long;
      low = λ i h. r.other i (inl (omega arith)) ∙ q.other i (inl (omega arith)) ∙ p.same i (omega arith) h;
      needs = λ t h. r.other (lay.needs + t) (inl (omega arith)) ∙ q.same (lay.needs + t) (omega arith) (omega arith);
      commands = λ i k h. r.same i k h;
    }

-- words that agree where those of a machine stand represent the same
pub represents-same : (s : Sheet) (b : Bundle) (w u x : List ℕ) (l n e : ℕ) (σ : State) → lay.extent ≤ length u → link_count s ≡ l → task_count s ≡ n → HandIs w x u l n e → Within b w e → Represents s b w σ
    → Represents s b u σ
represents-same s b w u x l n e σ long el en same inside h =
    let p = h.programmed in
    let low : (i : ℕ) → i < lay.stamps → get_or u i 0 ≡ get_or w i 0 = λ i z. same.low i (omega arith) in
    record {
      programmed =
          record {
            long = long;
            few = p.few;
            ranged = p.ranged;
            programmes = low lay.count (omega arith) ∙ p.programmes;
            links = low lay.links (omega arith) ∙ p.links;
            unpacks = low lay.unpacking (omega arith) ∙ p.unpacks;
            needs = λ t z. same.needs t (omega arith) ∙ p.needs t z;
            low = λ k z. rw (low (lay.firsts + k) (omega arith)) (p.low k z);
            apart = λ k z. rw (low (lay.firsts + k) (omega arith)) (p.apart k z);
            high = λ k z. rw (low (lay.firsts + k) (omega arith)) (p.high k z);
            last = λ k z. rw (low (lay.firsts + k) (omega arith), low (lay.lasts + k) (omega arith)) (p.last k z);
            decoded =
                λ k z.
                rw (low (lay.firsts + k) (omega arith))
                (decoded-same s (amount_of s b k) w u _ _
                (λ i a c. ⊎_elim (λ q. low i (omega arith)) (λ q. same.commands i (omega (arith, q.0)) (omega (arith, q.1))) (inside.within k z)) (p.decoded k z));
          };
      processors = h.processors;
      stamps = h.stamps;
      inside = h.inside;
      next = λ k z. rw (low k (omega arith), low (lay.firsts + k) (omega arith)) (h.next k z);
      clock = λ k z. low (lay.clocks + k) (omega arith) ∙ h.clock k z;
      store = λ k z. low (lay.stores + k) (omega arith) ∙ h.store k z;
      stamp = λ i z. rw (same.low (lay.stamps + i) (omega arith)) (h.stamp i z);
      room = h.room;
      roomy = h.roomy;
    }

-- in words of their own
module _ (sheet bundle w u state : List ℕ) (v : View) (f : Result Outline Refusal) (h : AdmitIs sheet bundle w u v f) where
  pub begin-refused : (r : Refusal) → f ≡ Err r → BeginIs sheet bundle w u state state v (Err r)
  begin-refused r e =
      record {
        long = h.long;
        state_long = refl;
        untouched = λ x q. refl;
        is = λ s k. sym e ∙ h.is s k;
        represents = λ s k b q. never (sym e ∙ h.is s k ∙ ap judged_of q);
      }

  module _ (out : Outline) (e : f ≡ Ok out) where
    counts : (b : Bundle) → Ok out ≡ judged_of (value b) → (programme_count b ≡ out.programmes) × (command_count b ≡ out.commands)
    unfolding outline_of
    counts b z = let q : out ≡ outline_of b = cc in (sym (ap (λ (x : Outline). x.programmes) q), sym (ap (λ (x : Outline). x.commands) q))

    -- a bundle that was admitted is short
    pub short-fit : Seen sheet v → Bytes bundle → lay.commands + (out.commands + out.programmes) ≤ lay.extent
    unfolding admitted_bytes
    short-fit y bytes = by (admitted_bytes y.board bundle) refl (sym e ∙ h.is y.board y.known)
      where
        of : (b : Bundle) → admitted_bytes y.board bundle ≡ value b → Ok out ≡ judged_of (value b) → lay.commands + (out.commands + out.programmes) ≤ lay.extent
        of b q z =
            let s = y.board in
            let k = y.known.ranged in
            let o = and_then-value (read_bundle s bundle) (admitted s) b q in
            let p = admitted-published s o.0 b o.2 in
            let read : read_bundle s bundle ≡ value b = o.1 ∙ ap value p.2 in
            let few = few-programmes s bundle b read k.few_processors in
            let n = counts b z in
            omega (arith, n.0, n.1, few, commands-whole b, few-of-read s bundle b k.few_tasks k.few_links few bytes read (subst (Published s) p.2 p.0))

        by : (o : Answer Bundle) → admitted_bytes y.board bundle ≡ o → Ok out ≡ judged_of o → lay.commands + (out.commands + out.programmes) ≤ lay.extent
        by (value b) q z = of b q z
        by (refused i j) q z = never (sym z)

    pub begin-starts : (last : List ℕ) → lay.extent ≤ length state → HandIs u state last v.links v.tasks (lay.commands + (out.commands + out.programmes)) → BeginIs sheet bundle w u state last v (Ok out)
    begin-starts last long g =
        record {
          long = h.long;
          state_long = g.long;
          untouched = λ x q. never (sym q);
          is = λ s k. sym e ∙ h.is s k;
          represents =
              λ s k b q.
              let y = h.represents s k b q in
              let n = counts b (sym e ∙ h.is s k ∙ ap judged_of q) in
              let i : lay.commands + command_count b + programme_count b ≡ lay.commands + (out.commands + out.programmes) = omega (arith, n.0, n.1) in
              represents-same s b u last state v.links v.tasks (lay.commands + (out.commands + out.programmes)) (fresh_state s b) (omega (arith, g.long)) k.links k.tasks g (subst (Within b u) i y.1) y.0;
        }

-- for the sheet in the tables
pub opened_in : (work sheet bundle part after state last : List ℕ) (v : View) (r : Result Outline Refusal) → Shown sheet work → ViewIs work v → BeginIs sheet bundle (mid_of lay.board (length work - lay.board) work) part state last v r
    → length after ≡ length work → OpenIs sheet bundle work after state last r
opened_in work sheet bundle part after state last v r h g y e =
    let k = known_in work sheet v h g in
    record {
      long = e;
      state_long = y.state_long;
      untouched = y.untouched;
      is = y.is (sheet_in work) k;
      represents = λ b z. y.represents (sheet_in work) k b z;
    }

pub part-extent : (w : List ℕ) → fixed ≤ length w → lay.extent ≤ length (mid_of lay.board (length w - lay.board) w)
part-extent w h = omega (arith, part-long w lay.board)

-- the sheet beside its bundle, or the refusal
abbrev beside : Sheet → Answer Bundle → Answer (Sheet × Bundle)
beside s a = and_then a (λ b. value (s, b))

beside-is : (s : Sheet) (a : Answer Bundle) → judged_of a ≡ started_of (beside s a)
beside-is s (value b) = refl
beside-is s (refused n at) = refl

beside-refused : (s : Sheet) (a : Answer Bundle) (n at : ℕ) → beside s a ≡ refused n at → a ≡ refused n at
beside-refused s (value b) n at e = not-value (sym e)
beside-refused s (refused m e) n at q = let x : m ≡ n = cc in let y : e ≡ at = cc in ap (λ (i : ℕ). refused i e) x ∙ ap (refused n) y

beside-value : (s t : Sheet) (a : Answer Bundle) (b : Bundle) → beside s a ≡ value (t, b) → (s ≡ t) × (a ≡ value b)
beside-value s t (value c) b e =
    let p : ◌≡◌ {A = Sheet × Bundle} (s, c) (t, b) = cc in
    (ap (λ (x : Sheet × Bundle). x.0) p, ap (λ (x : Sheet × Bundle). value x.1) p)
beside-value s t (refused n at) b e = not-value e

-- any bytes of a sheet: 1 to 10 first, and then by the sheet that was read
module _ (sheet : List ℕ) {work mid : List ℕ} {o : Result ⊤ Refusal} (h : graph.OpenIs (read_sheet sheet) work mid o) where
  pub shown : ((k : ℕ) → get_or sheet k 0 < 256) → o ≡ Ok tt → Shown sheet mid
  shown small q = record { loaded = open-loaded h q; fields = fields_read sheet (sheet_in mid) small (read-form sheet (sheet_in mid) (open-value h q)).0 }

module _ (sheet bundle work mid state : List ℕ) {o : Result ⊤ Refusal} (h : graph.OpenIs (read_sheet sheet) work mid o) where
  pub start-refused : (r : Refusal) → o ≡ Err r → BytesIs sheet bundle work mid state state (Err r)
  unfolding starting
  start-refused r q =
      let a : starting sheet bundle ≡ refused r.number r.place = ap (λ (x : Answer Sheet). and_then x (λ s. beside s (admitted_bytes s bundle))) (open-refusal h r q) in
      record {
        long = h.long;
        state_long = refl;
        is = sym (ap started_of a);
        untouched = λ number place z. refl;
        represents = λ s b z. not-value (sym a ∙ z);
      }

  pub start-opened : o ≡ Ok tt → (after last : List ℕ) (x : Result Outline Refusal) → OpenIs sheet bundle mid after state last x → BytesIs sheet bundle work after state last x
  unfolding starting
  start-opened q after last x g =
      let v : read_sheet sheet ≡ value (sheet_in mid) = open-value h q in
      let a : starting sheet bundle ≡ beside (sheet_in mid) (admitted_bytes (sheet_in mid) bundle) = ap (λ (y : Answer Sheet). and_then y (λ s. beside s (admitted_bytes s bundle))) v in
      record {
        long = g.long ∙ h.long;
        state_long = g.state_long;
        is = g.is ∙ beside-is (sheet_in mid) (admitted_bytes (sheet_in mid) bundle) ∙ sym (ap started_of a);
        untouched = λ number place z. g.untouched (refusal number place) (g.is ∙ ap judged_of (beside-refused (sheet_in mid) (admitted_bytes (sheet_in mid) bundle) number place (sym a ∙ z)));
        represents =
            λ s b z.
            let y = beside-value (sheet_in mid) s (admitted_bytes (sheet_in mid) bundle) b (sym a ∙ z) in
            subst (λ (t : Sheet). Represents t b last (fresh_state t b)) y.0 (g.represents b y.1);
      }
