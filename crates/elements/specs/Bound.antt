-- What the answers of src/ say of elements: which one a word is, and which variables are bound.
use Rattle.std.specs.Prelude.{◌≡◌, ℕ, Bool, true, false, ◌||◌, List, [], ◌∷◌, get_or}
use Rattle.semantics.specs.Net as net
use Rattle.semantics.specs.Plan.{member}
use Rattle.elements.specs.declared.element.Sort.{Sort}
use Rattle.elements.specs.declared.element.Sort.TheVariants.{Match, Solve, Range}

-- the element that semantics has for each case
abbrev pub sorted : Sort → net.Sort
sorted (Match k) = net.match k
sorted (Solve k) = net.solve k
sorted (Range n) = net.range n

-- a variable is marked as bound
abbrev pub marked : List Bool → ℕ → Bool
marked marks n = get_or marks n false

abbrev pub non_empty : List ℕ → Bool
non_empty [] = false
non_empty (n ∷ ns) = true

-- the marks after have those before and those of the variables ns, and r says whether there is one
pub record IsBound (before : List Bool) (ns : List ℕ) (r : Bool) (after : List Bool) : Type 0 where
  pub some : r ≡ non_empty ns
  pub marks : (k : ℕ) → marked after k ≡ (member ns k || marked before k)
