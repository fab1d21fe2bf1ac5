-- A colour held against the first words of components is held against the components: the first word of a component tells whether it is a
-- constant, a variable alone, or has an operator.
use mathlib.Core.Path.{◌≡◌, refl, ap, ◌∙◌, fun_ext}
use mathlib.Core.Bool.{cond}
use mathlib.Core.List.{List, [], ◌∷◌}
use mathlib.Core.Option.{Option, none, some, bind}
use Prim.Native.Nat.{ℕ, ◌%◌}
use native.Mathlib.Omega.{arith}
use lib.IntN.{ℤ}
use Rattle.semantics.specs.Word.{payload, Range}
use Rattle.semantics.specs.Expression.{Expression, constant, variable, binary, load}
use Rattle.semantics.specs.Order.{same_integer}
use Rattle.semantics.specs.ReadNet.{constant_head, variable_head}
use Rattle.semantics.specs.Tries.{Partial, partly, agree, matched}
use Rattle.expression.proofs.Spelled.{HeadWord}
use Rattle.matches.specs.Met.{part_try, matched_by}
use Rattle.arrivals.specs.Step.{Begin}
use Rattle.matches.proofs.Agreeing.{given-cond}

module _ (ranges : List Range) where
  module _ (w : ℕ) (z : ℤ) (p : Partial) where
    constant-part : (k : ℤ) → HeadWord w (constant_head k) → part_try ranges w z p ≡ cond (same_integer k z) (some p) none
    constant-part k h =
        let few = h.1 in
        let e : w % 16384 ≡ payload w = omega arith in
        rw (h.0, e, ← h.2) (given-cond (same_integer k z) p)

    variable-part : (n : ℕ) → HeadWord w (variable_head n) → part_try ranges w z p ≡ agree ranges p n (partly p n) z
    variable-part n h = rw (h.0, h.1)

  -- components told by their first words
  pub heads_match : (ws : List ℕ) (es : List Expression) → Begin ws es → (zs : List ℤ) (p : Partial) → matched_by ranges ws zs p ≡ matched ranges es zs p
  unfolding matched_by matched bind
  heads_match [] [] b zs p = refl
  heads_match [] (e ∷ es) b zs p = absurd b
  heads_match (w ∷ ws) [] b zs p = absurd b
  heads_match (w ∷ ws) (e ∷ es) b [] p = refl
  heads_match (w ∷ ws) (constant k ∷ es) b (z ∷ zs) p = ap (λ (o : Option Partial). bind o (matched_by ranges ws zs)) (constant-part w z p k b.0) ∙ ap (bind (cond (same_integer k z) (some p) none)) (fun_ext (heads_match ws es b.1 zs))
  heads_match (w ∷ ws) (variable n ∷ es) b (z ∷ zs) p = ap (λ (o : Option Partial). bind o (matched_by ranges ws zs)) (variable-part w z p n b.0) ∙ ap (bind (agree ranges p n (partly p n) z)) (fun_ext (heads_match ws es b.1 zs))
  heads_match (w ∷ ws) (binary o x y ∷ es) b (z ∷ zs) p = rw b.0 (heads_match ws es b.1 zs p)
  heads_match (w ∷ ws) (load x ∷ es) b (z ∷ zs) p = rw b.0 (heads_match ws es b.1 zs p)
