-- The colour of several expressions is that of the first one in front of that of the others. Lists that may be missing, put one after the other.
use mathlib.Core.Path.{◌≡◌, refl, ap}
use Prim.Native.Nat.{ℕ, suc}
use mathlib.Core.List.{List, [], ◌∷◌, ◌++◌, append_assoc}
use mathlib.Core.Option.{Option, none, some, bind}
use lib.IntN.{ℤ}
use lib.ListN.{length}
use Rattle.semantics.specs.Expression.{Expression, house_table, values_of}
use Rattle.semantics.specs.Reading.{Reading, read, refused, then, several}
use Rattle.semantics.specs.ReadNet.{read_expression}
use Rattle.evaluation.specs.Evaluate.{lent}
use Rattle.arcs.specs.Flow.{colour_of, colour_at}
use Rattle.evaluation.proofs.Answers.{Valued}

-- ── Lists that may be missing ──

-- a list in front of one that may be missing
abbrev pub front : {A : Type 0} → List A → Option (List A) → Option (List A)
front xs none = none
front xs (some ys) = some (xs ++ ys)

pub front_nil : {A : Type 0} (o : Option (List A)) → front [] o ≡ o
front_nil none = refl
front_nil (some ys) = refl

pub front-front : {A : Type 0} (xs ys : List A) (o : Option (List A)) → front (xs ++ ys) o ≡ front xs (front ys o)
front-front xs ys none = refl
front-front xs ys (some zs) = ap some (append_assoc xs ys zs)

pub front-bind : {A : Type 0} (x : A) (o : Option (List A)) → bind o (λ xs. some (x ∷ xs)) ≡ front (x ∷ []) o
unfolding bind
front-bind x none = refl
front-bind x (some xs) = refl

-- ── One component ──

module _ {ws bs : List ℕ} {at : ℕ} (k : ℕ) where
  pub colour-value : {z : ℤ} {p : ℕ} → Valued ws bs at (some z) p → colour_at ws bs (suc k) at ≡ front (z ∷ []) (colour_at ws bs k p)
  unfolding several values_of bind
  colour-value {z} {p} v = rw v.reads (by (several k (read_expression ws (length bs)) p))
    where
      by : (x : Reading (List Expression)) → colour_of (lent bs) (then x (λ rest end. read (v.tree ∷ rest) end)) ≡ front (z ∷ []) (colour_of (lent bs) x)
      by (read es end) = rw v.same (front-bind z (values_of house_table (lent bs) es))
      by (refused n q) = refl

  pub colour-none : {p : ℕ} → Valued ws bs at none p → colour_at ws bs (suc k) at ≡ none
  unfolding several values_of bind
  colour-none {p} v = rw v.reads (by (several k (read_expression ws (length bs)) p))
    where
      by : (x : Reading (List Expression)) → colour_of (lent bs) (then x (λ rest end. read (v.tree ∷ rest) end)) ≡ none
      by (read es end) = rw v.same
      by (refused n q) = refl
