-- "This is a total order of accepted bundles: show that any two are comparable and that choices chain", of the bundles that zeldrupa_check accepts for a sheet and of
-- calls of zeldrupa_better. `Gives..` is what a call of the function of that name promises, word for word.
use Rattle.std.specs.Prelude.{ℕ, ◌≤◌, ◌≡◌, ◌⊎◌, ◌≢◌, List, [], length}
use Rattle.std.proofs.Math.Option.{some}
use Rattle.std.specs.Borrow.{Bor}
use Rattle.folds.specs.Answers.{value}
use Rattle.workspace.specs.Area.{fixed}
use Rattle.sheet.specs.Sheet.{Sheet}
use Rattle.graph.specs.Graph.{read_sheet}
use Rattle.better.specs.Orders.{Rank, by_rank}
use Rattle.better.specs.Ranks.{rank_of}
use Rattle.std.specs.declared.cmp.Ordering.TheVariants.{Less}
use Rattle.zeldrupa.specs.Promises.{GivesCheck, GivesBetter}

-- a call of zeldrupa_check accepted the bundle for the sheet; or, with an area that was long enough, refused it
pub record Accepted (sheet bundle : List ℕ) : Type 0 where
  pub area : List ℕ
  pub area' : List ℕ
  pub place : ℕ
  pub check : GivesCheck sheet bundle area area' place 0

pub record Refused (sheet bundle : List ℕ) : Type 0 where
  pub area : List ℕ
  pub area' : List ℕ
  pub place : ℕ
  pub number : ℕ
  pub long : fixed ≤ length area
  pub check : GivesCheck sheet bundle area area' place number
  pub no : number ≢ 0

-- the bundle a comes before the bundle b: both have a rank, and that of a is less
pub record Before (sheet a b : List ℕ) : Type 0 where
  pub x : Rank
  pub y : Rank
  pub x_is : rank_of sheet a ≡ some x
  pub y_is : rank_of sheet b ≡ some y
  pub less : by_rank x y ≡ Less

-- a call of zeldrupa_better with an area that was long enough returned r, set the place to p and handed back `kept`
pub record Choice (sheet : List ℕ) (first second kept : Bor (List ℕ)) (p r : ℕ) : Type 0 where
  pub work : List ℕ
  pub work' : List ℕ
  pub long : fixed ≤ length work
  pub gives : GivesBetter sheet first second work work' kept p r

pub record Choosing : Type 0 where
  -- a total order of the accepted bundles: of any two, one comes before the other or they have the same bytes
  pub comparable : (sheet a b : List ℕ) → Accepted sheet a → Accepted sheet b → Before sheet a b ⊎ (Before sheet b a ⊎ (a ≡ b))
  pub transitive : (sheet a b c : List ℕ) → Before sheet a b → Before sheet b c → Before sheet a c
  pub strict : (sheet a : List ℕ) → Before sheet a a → ⊥
  -- zeldrupa_better hands back the one that comes before the other, the first of equals; what it hands back is accepted
  pub chosen : (sheet : List ℕ) (first second kept : Bor (List ℕ)) (p r : ℕ) → Accepted sheet first.now → Accepted sheet second.now → Choice sheet first second kept p r →
      (r ≡ 0) × (p ≡ length kept.now) × Accepted sheet kept.now ×
      (((kept ≡ first) × (Before sheet first.now second.now ⊎ (first.now ≡ second.now))) ⊎ ((kept ≡ second) × Before sheet second.now first.now))
  -- "accepted before refused", and 34 when both are
  pub first_alone : (sheet : List ℕ) (first second kept : Bor (List ℕ)) (p r : ℕ) → Accepted sheet first.now → Refused sheet second.now → Choice sheet first second kept p r →
      (r ≡ 0) × (kept ≡ first)
  pub second_alone : (sheet : List ℕ) (first second kept : Bor (List ℕ)) (p r : ℕ) → Refused sheet first.now → Accepted sheet second.now → Choice sheet first second kept p r →
      (r ≡ 0) × (kept ≡ second)
  pub neither : (sheet : List ℕ) (s : Sheet) → read_sheet sheet ≡ value s → (first second kept : Bor (List ℕ)) (p r : ℕ) → Refused sheet first.now → Refused sheet second.now →
      Choice sheet first second kept p r → (r ≡ 34) × (p ≡ 0) × (kept.ref_ptr ≡ first.ref_ptr) × (kept.now ≡ [])
  -- choices chain: the better of a and b, compared with c, is what a compared with the better of b and c is, the very bytes that were lent
  pub chains : (sheet : List ℕ) (a b c ab bc left right : Bor (List ℕ)) (p q u v m n i j : ℕ) → Accepted sheet a.now → Accepted sheet b.now → Accepted sheet c.now →
      Choice sheet a b ab p q → Choice sheet ab c left u v → Choice sheet b c bc m n → Choice sheet a bc right i j → left ≡ right
