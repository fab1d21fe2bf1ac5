-- 01, "Expressions": an expression as a tree, and its value under a binding, which may be missing.
-- Rests on Word.
use Rattle.std.specs.Prelude.{ℕ, ◌^◌, Bool, true, false, ◌&&◌, List, [], ◌∷◌, ltb, ℤ, pos, negsuc, nat_abs, ◌+ℤ◌, ◌-ℤ◌, ◌*ℤ◌}
use Rattle.std.proofs.Math.Option.{Option, none, some, bind, map}
use Rattle.std.proofs.Math.ListN.{get_elem?}
use Rattle.std.specs.Int.Signed.{mag, lt_z}
use Rattle.semantics.specs.Word.{modulo}

-- the operators of two operands
pub data Operator : Type 0 where
  add subtract multiply remainder : Operator

pub data Expression : Type 0 where
  constant : ℤ → Expression
  variable : ℕ → Expression
  binary : Operator → Expression → Expression → Expression
  load : Expression → Expression

-- a variable's value, where it is bound
abbrev pub Environment : Type 0
Environment = ℕ → Option ℤ

abbrev pub given : {A : Type 0} → Bool → A → Option A
given true a = some a
given false a = none

-- "Results are exact. A result outside -2^31 to 2^31-1 is no value." A result within these bounds; mag is n both for n and for -(n + 1).
abbrev pub bounded : ℤ → Option ℤ
bounded z = given (ltb (mag z) (2 ^ 31)) z

-- "Remainder by d > 0 lies in 0 to d-1; by d ≤ 0 it is no value."
abbrev pub remainder_of : ℤ → ℤ → Option ℤ
remainder_of x d = given (lt_z (pos 0) d) (pos (modulo x (nat_abs d)))

unfoldable pub operate : Operator → ℤ → ℤ → Option ℤ
operate add x y = bounded (x +ℤ y)
operate subtract x y = bounded (x -ℤ y)
operate multiply x y = bounded (x *ℤ y)
operate remainder x y = remainder_of x y

-- "the house table of full tiller load in pump units, depth 0 to 15"
abbrev pub house_table : List ℕ
house_table = 0 ∷ 2 ∷ 3 ∷ 4 ∷ 5 ∷ 6 ∷ 7 ∷ 8 ∷ 9 ∷ 10 ∷ 11 ∷ 12 ∷ 12 ∷ 13 ∷ 13 ∷ 14 ∷ []

-- "Load reads the house table ..; elsewhere no value"
unfoldable pub load_of : List ℕ → ℤ → Option ℤ
load_of table (pos depth) = map pos (get_elem? table depth)
load_of table (negsuc n) = none

-- the value of an expression; "An operand without value leaves none."
unfoldable pub value : List ℕ → Environment → Expression → Option ℤ
value table env (constant z) = some z
value table env (variable n) = env n
value table env (binary o a b) = bind (value table env a) (λ x. bind (value table env b) (λ y. operate o x y))
value table env (load a) = bind (value table env a) (load_of table)

-- the values of several, where all have one
unfoldable pub values_of : List ℕ → Environment → List Expression → Option (List ℤ)
values_of table env [] = some []
values_of table env (e ∷ es) = bind (value table env e) (λ z. bind (values_of table env es) (λ zs. some (z ∷ zs)))

-- the environment of a full binding, which has a value for each variable
abbrev pub bound : List ℤ → Environment
bound b n = get_elem? b n

-- whether each variable of an expression passes a test
unfoldable pub every_variable : (ℕ → Bool) → Expression → Bool
every_variable p (constant z) = true
every_variable p (variable n) = p n
every_variable p (binary o a b) = every_variable p a && every_variable p b
every_variable p (load a) = every_variable p a
