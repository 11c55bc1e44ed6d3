-- Formulas and what they weigh, as one statement about the definitions, which compute them.
use Rattle.std.specs.Prelude.{ℕ, ◌≡◌, refl, List, [], ◌∷◌, ◌++◌, replicate}
use Rattle.folds.specs.Answers.{Answer, value, refused}
use Rattle.formulas.specs.Grammar.{kind_of}
use Rattle.formulas.specs.Values.{decimal}
use Rattle.formulas.specs.Scanning.{scan}
use Rattle.formulas.specs.Weights.{weight_of}

-- b = 20, n = 100, every other letter 7
abbrev pub letters : List ℕ
letters = 7 ∷ 20 ∷ (replicate 11 7 ++ (100 ∷ replicate 12 7))

abbrev pub weigh : List ℕ → Answer ℕ
weigh text = weight_of text letters

abbrev pub nested : ℕ → List ℕ
nested n = replicate n 40 ++ (49 ∷ replicate n 41)

pub record Trials : Type 0 where
  -- 3*n*n+2*(n+b), a cost polynomial in record length and bins
  pub polynomial : weigh (51 ∷ 42 ∷ 110 ∷ 42 ∷ 110 ∷ 43 ∷ 50 ∷ 42 ∷ 40 ∷ 110 ∷ 43 ∷ 98 ∷ 41 ∷ []) ≡ value 30240
  -- 1+2*3, (1+2)*3
  pub tighter : weigh (49 ∷ 43 ∷ 50 ∷ 42 ∷ 51 ∷ []) ≡ value 7
  pub grouped : weigh (40 ∷ 49 ∷ 43 ∷ 50 ∷ 41 ∷ 42 ∷ 51 ∷ []) ≡ value 9
  -- 4294967295*2*0+1: the first partial result is too large, though it is multiplied by 0 later
  pub too_large : weigh (52 ∷ 50 ∷ 57 ∷ 52 ∷ 57 ∷ 54 ∷ 55 ∷ 50 ∷ 57 ∷ 53 ∷ 42 ∷ 50 ∷ 42 ∷ 48 ∷ 43 ∷ 49 ∷ []) ≡ refused 36 0
  -- 0*4294967295*2+1: grouped from the left no partial result is
  pub from_the_left : weigh (48 ∷ 42 ∷ 52 ∷ 50 ∷ 57 ∷ 52 ∷ 57 ∷ 54 ∷ 55 ∷ 50 ∷ 57 ∷ 53 ∷ 42 ∷ 50 ∷ 43 ∷ 49 ∷ []) ≡ value 1
  -- 0000000009, and with an eleventh digit
  pub ten_digits : weigh (replicate 9 48 ++ (57 ∷ [])) ≡ value 9
  pub eleven_digits : weigh (replicate 10 48 ++ (57 ∷ [])) ≡ refused 35 10
  -- 1 in 32 parentheses, and in 33
  pub deepest : weigh (nested 32) ≡ value 1
  pub too_deep : weigh (nested 33) ≡ refused 35 32
  -- nothing; (1+; 1)
  pub empty : weigh [] ≡ refused 35 0
  pub cut : weigh (40 ∷ 49 ∷ 43 ∷ []) ≡ refused 35 3
  pub unopened : weigh (49 ∷ 41 ∷ []) ≡ refused 35 1
  -- 65535, 65536, 0
  pub heaviest : weigh (54 ∷ 53 ∷ 53 ∷ 51 ∷ 53 ∷ []) ≡ value 65535
  pub heavier : weigh (54 ∷ 53 ∷ 53 ∷ 51 ∷ 54 ∷ []) ≡ refused 36 0
  pub nought : weigh (48 ∷ []) ≡ refused 36 0
  -- 1 with 25 values; 1+ with 25 values: 35 goes first
  pub few_letters : weight_of (49 ∷ []) (replicate 25 7) ≡ refused 36 0
  pub text_first : weight_of (49 ∷ 43 ∷ []) (replicate 25 7) ≡ refused 35 2

pub trials : Trials
unfolding weight_of scan kind_of decimal
trials =
    record {
      polynomial = refl;
      tighter = refl;
      grouped = refl;
      too_large = refl;
      from_the_left = refl;
      ten_digits = refl;
      eleven_digits = refl;
      deepest = refl;
      too_deep = refl;
      empty = refl;
      cut = refl;
      unopened = refl;
      heaviest = refl;
      heavier = refl;
      nought = refl;
      few_letters = refl;
      text_first = refl;
    }
