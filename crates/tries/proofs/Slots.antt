-- Slots of words as a partial binding. Each law goes along the list: a slot is looked up, or written, at the same place in the words as
-- in the values.
use mathlib.Core.Path.{◌≡◌, refl, ap, ◌∙◌, fun_ext}
use mathlib.Core.Bool.{Bool, true, false}
use mathlib.Core.List.{List, [], ◌∷◌, map}
use mathlib.Core.Option.{Option, none, some, bind}
use Prim.Native.Nat.{ℕ, zero, suc, ◌≤◌, ◌<◌}
use native.Mathlib.Omega.{arith}
use lib.IntN.{ℤ}
use lib.ListN.{take, set, get_or}
use Rattle.semantics.specs.Tries.{Partial, partly}
use Rattle.evaluation.specs.Evaluate.{value_of, lent}
use Rattle.tries.specs.Partial.{partial_of, IsTried}

-- a slot of words is the variable of the partial binding
slot_lent : (b : List ℕ) (n : ℕ) → lent b n ≡ partly (map value_of b) n
unfolding bind
slot_lent [] n = refl
slot_lent (w ∷ b) zero = refl
slot_lent (w ∷ b) (suc n) = slot_lent b n

pub slots_lent : (v : ℕ) (b : List ℕ) → lent (take v b) ≡ partly (partial_of v b)
slots_lent v b = fun_ext (slot_lent (take v b))

-- a slot that the code looks at
pub slot_read : (v n : ℕ) (b : List ℕ) → n < v → partly (partial_of v b) n ≡ value_of (get_or b n 0)
slot_read zero n b h = absurd (omega arith)
slot_read (suc v) n [] h = refl
slot_read (suc v) zero (w ∷ b) h = refl
slot_read (suc v) (suc n) (w ∷ b) h = slot_read v n b (omega arith)

-- a VALUE word is written
pub slots_set : (v n w : ℕ) (b : List ℕ) (z : ℤ) → n < v → value_of w ≡ some z → partial_of v (set b n w) ≡ set (partial_of v b) n (some z)
slots_set zero n w b z h e = absurd (omega arith)
slots_set (suc v) n w [] z h e = refl
slots_set (suc v) zero w (x ∷ b) z h e = ap (λ (o : Option ℤ). o ∷ partial_of v b) e
slots_set (suc v) (suc n) w (x ∷ b) z h e = ap (λ (p : Partial). value_of x ∷ p) (slots_set v n w b z (omega arith) e)

-- there are no slots beyond the variables
pub slot_beyond : (v n : ℕ) (b : List ℕ) → v ≤ n → partly (partial_of v b) n ≡ none
slot_beyond zero n b h = refl
slot_beyond (suc v) n [] h = refl
slot_beyond (suc v) zero (w ∷ b) h = absurd (omega arith)
slot_beyond (suc v) (suc n) (w ∷ b) h = slot_beyond v n b (omega arith)

-- ── What a try answers ──

module _ {v : ℕ} {b : List ℕ} where
  pub tried_not : {o : Option Partial} → none ≡ o → IsTried v o b false b
  tried_not e = record { same = e; left = λ d. refl }

  pub tried_on : {o : Option Partial} {b' : List ℕ} → some (partial_of v b') ≡ o → IsTried v o b true b'
  tried_on e = record { same = e; left = λ d. let z : ◌≡◌ {A = ℕ} 0 1 = cc in absurd (omega arith) }

  -- the slots are put back
  pub tried_back : {o : Option Partial} {b' : List ℕ} → none ≡ o → b' ≡ b → IsTried v o b false b'
  tried_back e f = record { same = e; left = λ d. f }

  pub tried_same : {o o' : Option Partial} {on : Bool} {b' : List ℕ} → IsTried v o b on b' → o ≡ o' → IsTried v o' b on b'
  tried_same t e = record { same = t.same ∙ e; left = t.left }
