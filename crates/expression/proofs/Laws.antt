-- What holds of an expression that is read at a position: how far it reaches, what its first word says of it, and which of its words are its
-- variables. What the end of a reading that was passed over says of it.
-- Rests on Spelled.
use mathlib.Core.Path.{◌≡◌, refl, sym, ap, ◌∙◌}
use mathlib.Core.Bool.{Bool, cond, not, ◌&&◌, ◌||◌, and-true, and_assoc}
use mathlib.Core.List.{List, [], ◌∷◌, ◌++◌}
use Prim.Native.Nat.{ℕ, ◌+◌, ◌≤◌, ◌<◌}
use native.Mathlib.Numerals.{add-one}
use native.Mathlib.Omega.{arith}
use lib.Dec.{eqb}
use lib.ListN.{length, get_or, take, drop, take-append-drop}
use lib.Seq.{length-take-le, take-take, drop-append-le, slice, slice_empty, slice-cons}
use Rattle.semantics.specs.Refusal.{most_words, most_expression_words}
use Rattle.semantics.specs.Lists.{every}
use Rattle.semantics.specs.Word.{kind, payload, signed}
use Rattle.semantics.specs.Expression.{Expression, constant, variable, binary, load, every_variable}
use Rattle.semantics.specs.Reading.{Reading, read, refused}
use Rattle.semantics.specs.ReadNet.{read_expression}
use Rattle.semantics.proofs.Spans.{refused-read}
use Rattle.semantics.proofs.Tests.{false_true}
use Rattle.std.specs.Prelude.{Result, Ok, Err}
use Rattle.semantics.specs.declared.refusal.Refusal.{Refusal}
use Rattle.semantics.specs.Answer.{number_of, position_of, refusing}
use Rattle.expression.specs.Skip.{forget, skipped, Ahead}
use Rattle.expression.proofs.Spelled.{HeadWord, head_of_tree, Spelled, spelled}

-- ── Parts of the words ──

pub every_append : {A : Type 0} (p : A → Bool) (xs ys : List A) → every p (xs ++ ys) ≡ (every p xs && every p ys)
unfolding every
every_append p [] ys = refl
every_append p (x ∷ xs) ys = ap (λ (t : Bool). p x && t) (every_append p xs ys) ∙ sym (and_assoc (p x) (every p xs) (every p ys))

pub slice_split : {A : Type 0} (from mid to : ℕ) (l : List A) → from ≤ mid → mid ≤ to → mid ≤ length l → slice from to l ≡ slice from mid l ++ slice mid to l
slice_split {A} from mid to l h i j =
    let t = take-take mid to l i in
    let n : from ≤ length (take mid (take to l)) = rw (t, length-take-le mid l j) h in
    ap (λ (x : List A). drop from x) (sym (take-append-drop mid (take to l)))
    ∙ drop-append-le from (take mid (take to l)) (slice mid to l) n
    ∙ ap (λ (x : List A). drop from x ++ slice mid to l) t

slice_first : (p : ℕ → Bool) (at next : ℕ) (ws : List ℕ) → at < next → next ≤ length ws → every p (slice at next ws) ≡ (p (get_or ws at 0) && every p (slice (at + 1) next ws))
unfolding every
slice_first p at next ws h i = rw (slice-cons at next ws 0 h i, add-one at)

-- ── How far an expression reaches ──

reach : (ws : List ℕ) (stop at : ℕ) (e : Expression) (next : ℕ) → Spelled ws stop at e next → (at < next) × (next ≤ stop) × (next ≤ length ws) × (next ≤ most_words)
reach ws stop at (constant z) next s = omega arith
reach ws stop at (variable n) next s = omega arith
reach ws stop at (binary o a b) next s =
    let (mid, p, q) = s.2 in
    let f = reach ws stop (at + 1) a mid p in
    let g = reach ws stop mid b next q in
    omega arith
reach ws stop at (load a) next s = let f = reach ws stop (at + 1) a next s.2 in omega arith

-- ── Variables ──

-- a word passes where it is no VARIABLE, or its variable passes
abbrev pub variable_passes : (ℕ → Bool) → ℕ → Bool
variable_passes p w = not (eqb (kind w) 8) || p (payload w)

module _ (ws : List ℕ) (stop : ℕ) (p : ℕ → Bool) where
  flat : (at : ℕ) (e : Expression) (next : ℕ) → Spelled ws stop at e next → every_variable p e ≡ every (variable_passes p) (slice at next ws)
  unfolding every_variable every
  flat at (constant z) next s =
      let r = reach ws stop at (constant z) next s in
      rw (slice_first (variable_passes p) at next ws r.0 r.2, s.1.0, s.2, slice_empty (at + 1) ws)
  flat at (variable n) next s =
      let r = reach ws stop at (variable n) next s in
      rw (slice_first (variable_passes p) at next ws r.0 r.2, s.1.0, s.1.1, s.2, slice_empty (at + 1) ws) (sym (and-true (p (payload (get_or ws at 0)))))
  flat at (binary o a b) next s =
      let (mid, f, g) = s.2 in
      let r = reach ws stop at (binary o a b) next s in
      let i = reach ws stop (at + 1) a mid f in
      let j = reach ws stop mid b next g in
      rw (slice_first (variable_passes p) at next ws r.0 r.2, s.1, slice_split (at + 1) mid next ws (omega arith) (omega arith) i.2, every_append (variable_passes p) (slice (at + 1) mid ws) (slice mid next ws), flat (at + 1) a mid f, flat mid b next g)
  flat at (load a) next s =
      let r = reach ws stop at (load a) next s in
      rw (slice_first (variable_passes p) at next ws r.0 r.2, s.1) (flat (at + 1) a next s.2)

-- ── The first word ──

first : (ws : List ℕ) (stop at : ℕ) (e : Expression) (next : ℕ) → Spelled ws stop at e next → HeadWord (get_or ws at 0) (head_of_tree e)
first ws stop at (constant z) next s = s.1
first ws stop at (variable n) next s = s.1
first ws stop at (binary o a b) next s = s.1
first ws stop at (load a) next s = s.1

-- the expression of a CONSTANT or a VARIABLE word
leaf_of : ℕ → Expression
leaf_of w = cond (eqb (kind w) 7) (constant (signed (payload w))) (variable (payload w))

alone : (ws : List ℕ) (stop at : ℕ) (e : Expression) (next : ℕ) → Spelled ws stop at e next → kind (get_or ws at 0) < 9 → (e ≡ leaf_of (get_or ws at 0)) × (next ≡ at + 1)
unfolding leaf_of
alone ws stop at (constant z) next s h = (rw s.1.0 (ap constant s.1.2), s.2)
alone ws stop at (variable n) next s h = (rw s.1.0 (ap variable s.1.1), s.2)
alone ws stop at (binary o a b) next s h = let k = s.1 in absurd (omega arith)
alone ws stop at (load a) next s h = let k = s.1 in absurd (omega arith)

-- ── An expression that is read ──

module _ (ws : List ℕ) (variables at : ℕ) {e : Expression} {next : ℕ} (x : read_expression ws variables at ≡ read e next) where
  pub expression_short : Ahead ws at next
  expression_short =
      let r = reach ws (at + most_expression_words) at e next (spelled ws variables at x) in
      record { later = r.0; short = r.1; in_words = r.2; in_limit = r.3 }

  -- the variables of an expression are its VARIABLE words
  pub variables_flat : (p : ℕ → Bool) → every_variable p e ≡ every (variable_passes p) (slice at next ws)
  variables_flat p = flat ws (at + most_expression_words) p at e next (spelled ws variables at x)

  -- the first word tells constants (7), variables (8) and operators (9) apart
  pub first_word : HeadWord (get_or ws at 0) (head_of_tree e)
  first_word = first ws (at + most_expression_words) at e next (spelled ws variables at x)

  -- a VARIABLE and a CONSTANT stand alone
  pub variable-alone : kind (get_or ws at 0) ≡ 8 → (e ≡ variable (payload (get_or ws at 0))) × (next ≡ at + 1)
  unfolding leaf_of
  variable-alone k = rw k at (alone ws (at + most_expression_words) at e next (spelled ws variables at x) (omega arith))

  pub constant-alone : kind (get_or ws at 0) ≡ 7 → (e ≡ constant (signed (payload (get_or ws at 0)))) × (next ≡ at + 1)
  unfolding leaf_of
  constant-alone k = rw k at (alone ws (at + most_expression_words) at e next (spelled ws variables at x) (omega arith))

-- ── What is passed over ──

-- a reading that the code has passed over, told by its end
pub passed-read : {A : Type 0} (x : Reading A) (s : Result ℕ Refusal) {n : ℕ} → skipped s ≡ forget x → s ≡ Ok n → (a : A) × (x ≡ read a n)
passed-read (read a k) s {n} e d = let b : read tt n ≡ read tt k = sym (ap skipped d) ∙ e in (a, cc)
passed-read (refused m q) s {n} e d = refused-read m q tt n (sym e ∙ ap skipped d)

pub passed-refused : {A : Type 0} (x : Reading A) (s : Result ℕ Refusal) {e : Refusal} → skipped s ≡ forget x → s ≡ Err e → x ≡ refusing e
passed-refused (read a k) s {e = r} e d = refused-read (number_of r) (position_of r) tt k (sym (ap skipped d) ∙ e)
passed-refused (refused m q) s {e = r} e d = let b : refused (number_of r) (position_of r) ≡ refused m q = sym (ap skipped d) ∙ e in cc

-- the end of a reading is no refusal
pub next-refused : {X : Type 0} {next : ℕ} {e : Refusal} → Ok next ≡ Err e → X
next-refused e = false_true (cc)
