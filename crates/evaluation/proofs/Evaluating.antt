-- The rules of evaluating: the value of an expression, from its first word and the values of its operands. Each is one arm of the code. The idea: where
-- an expression stands its head is not refused, so its word passes every test of a head, and an operator's operands stand behind it.
use mathlib.Core.Path.{◌≡◌, refl, ap, ◌∙◌}
use mathlib.Core.Bool.{Bool, true, false}
use mathlib.Core.List.{List}
use mathlib.Core.Option as definitions
use mathlib.Core.Option.{bind}
use Prim.Native.Nat.{ℕ, zero, suc, ◌+◌, ◌*◌, ◌-◌, ◌%◌, ◌≤◌, ◌<◌}
use native.Mathlib.Omega.{arith}
use borrow.Author.Rules.{rules}
use borrow.Author.Tests.{leb-true, leb-false, eqb-true, eqb-false}
use mir.Syntax.{w64}
use mir.Val.{Fits}
use lib.Dec.{eqb, leb, ltb}
use lib.IntN.{ℤ}
use lib.ListN.{length, get_or}
use Rattle.semantics.specs.Refusal.{bad_word, most_words}
use Rattle.semantics.specs.Expression.{Operator, Expression, operate, load_of, house_table, value}
use Rattle.semantics.proofs.Members.{elem_number}
use Rattle.semantics.proofs.Readers.{Gives, gives, refusal, given, cond_gives}
use Rattle.semantics.specs.Reading.{read, then, word_at}
use Rattle.semantics.specs.Word.{kind, payload, signed}
use Rattle.semantics.specs.ReadNet as net
use Rattle.semantics.specs.ReadNet.{head_of, head_at, expression_in}
use Rattle.semantics.proofs.Spans.{refused-read, demand-read, then-read}
use Rattle.std.specs.Prelude.{Option, Some, Result, Ok, Err}
use Rattle.semantics.specs.declared.refusal.Refusal.{Refusal}
use Rattle.semantics.specs.Answer.{option_of, number_of, position_of}
use Rattle.word.specs.Operator.{operator_of}
use Rattle.expression.specs.declared.head.Head.{Head}
use Rattle.expression.specs.declared.head.Head.TheVariants.{Constant, Variable, Binary, Load}
use Rattle.expression.specs.Head.{head, IsWord}
use Rattle.evaluation.specs.declared.evaluate.Evaluated.{Evaluated}
use Rattle.evaluation.specs.Evaluate.{value_of, lent, valued, evaluated, evaluated_from, Stands, StandTwo, HasOperator, IsEvaluated, IsTwo, IsLoaded}
use Rattle.expression.proofs.Heads.{constant-word, variable-word, binary-word, load_word, stray_constant, missing_variable, unknown_operator, other_word}

-- "An operand without value leaves none."
abbrev operated : Operator → definitions.Option ℤ → definitions.Option ℤ → definitions.Option ℤ
operated o u v = bind u (λ x. bind v (λ y. operate o x y))

-- a variable that there is has the value of its word
lent_at : (bs : List ℕ) (n : ℕ) → n < length bs → lent bs n ≡ value_of (get_or bs n 0)
unfolding bind
lent_at bs n h = rw (elem_number bs n 0 h)

-- ── The first word of a reading ──

-- the word is there, its head is not refused, and the operands are read by one round less
record Begun (ws : List ℕ) (v at rounds stop : ℕ) (tree : Expression) (next : ℕ) : Type 0 where
  in_words : at < length ws
  in_limit : at < most_words
  goes_on : then (head_of v (get_or ws at 0) at (at + 1)) (net.operands (expression_in (rounds - 1) ws v stop)) ≡ read tree next

word-there : (ws : List ℕ) (at : ℕ) → Gives (λ w next. (w ≡ get_or ws at 0) × (at < length ws) × (at < most_words) × (next ≡ at + 1)) (word_at ws at)
unfolding word_at
word-there ws at =
    cond_gives (leb (length ws) at) (λ e. refusal) λ e.
    cond_gives (leb most_words at) (λ d. refusal) λ d.
    gives (refl, leb-false (length ws) at e, leb-false most_words at d, refl)

module _ {ws : List ℕ} {v at stop : ℕ} {tree : Expression} {next : ℕ} where
  begun : (rounds : ℕ) → expression_in rounds ws v stop at ≡ read tree next → Begun ws v at rounds stop tree next
  unfolding expression_in head_at
  begun zero e = refused-read bad_word at tree next e
  begun (suc n) e =
      then-read (head_at ws v stop at) _ tree next e λ t mid p q.
      then-read (word_at ws at) _ t mid p λ w m g f.
      let h = given (word-there ws at) g in
      let d : head_of v w at m ≡ read t mid = (demand-read (ltb at stop) at (head_of v w at m) t mid f).1 in
      let i : suc n - 1 ≡ n = omega arith in
      let j : head_of v (get_or ws at 0) at (at + 1) ≡ read t mid = rw (← h.0, ← h.3) d in
      record { in_words = h.1; in_limit = h.2; goes_on = rw (i, j) q }

  -- by the rules of a head
  headed : {rounds : ℕ} {r : Result Head Refusal} → Begun ws v at rounds stop tree next → IsWord (get_or ws at 0) v at r → then (head at r) (net.operands (expression_in (rounds - 1) ws v stop)) ≡ read tree next
  headed b x = rw x.same b.goes_on

-- ── Where an expression stands ──

below : (a b : ℕ) → (b ≤ a → ⊥) → a < b
below a b f = by (leb b a) refl
  where
    by : (t : Bool) → leb b a ≡ t → a < b
    by true e = absurd (f (leb-true b a e))
    by false e = leb-false b a e

module _ {ws : List ℕ} {v at : ℕ} (s : Stands ws v at) where
  begins : Begun ws v at s.rounds s.stop s.tree s.next
  begins = begun s.rounds s.reads

  never : {X : Type 0} {e : Refusal} → IsWord (get_or ws at 0) v at (Err e) → X
  never {e = e} x = refused-read (number_of e) (position_of e) s.tree s.next (headed begins x)

  pub in_words : at < length ws
  in_words = begins.in_words

  in_limit : at < 16384
  in_limit = begins.in_limit

  pub next_fits : Fits w64 (at + 1)
  next_fits = let h = in_limit in record { fits = omega arith }

  module _ {k u : ℕ} (e : k ≡ kind (get_or ws at 0)) (d : u ≡ payload (get_or ws at 0)) where
    constant-fits : k ≡ 7 → u < 16384
    constant-fits i = below u 16384 (λ h. never (stray_constant e d i h))

    pub in_range : k ≡ 8 → u < v
    in_range i = below u v (λ h. never (missing_variable e d i h))

    constant-head : {z : ℤ} → k ≡ 7 → z ≡ signed (get_or ws at 0 % 16384) → IsWord (get_or ws at 0) v at (Ok (Constant z))
    constant-head i f = constant-word e d i (constant-fits i) f

    variable-head : k ≡ 8 → IsWord (get_or ws at 0) v at (Ok (Variable u))
    variable-head i = variable-word e d i (in_range i)

-- an operator, told by its code, and what stands behind it
module _ {ws : List ℕ} {v at : ℕ} (o : HasOperator ws v at) where
  pub stands-operator : Stands ws v at
  stands-operator = o.stands

  nine : kind (get_or ws at 0) ≡ 9
  nine = by (eqb (kind (get_or ws at 0)) 9) refl
    where
      by : (t : Bool) → eqb (kind (get_or ws at 0)) 9 ≡ t → kind (get_or ws at 0) ≡ 9
      by true e = eqb-true (kind (get_or ws at 0)) 9 e
      by false e = never o.stands (other_word {variables = v} {u = payload (get_or ws at 0)} refl refl o.no_constant o.no_variable (eqb-false (kind (get_or ws at 0)) 9 e))

  module _ {u : ℕ} (d : u ≡ payload (get_or ws at 0)) where
    binary-head : u < 4 → IsWord (get_or ws at 0) v at (Ok (Binary u))
    binary-head h = binary-word refl d nine h

    load-head : u ≡ 4 → IsWord (get_or ws at 0) v at (Ok Load)
    load-head h = load_word refl d nine h

    pub load-stands : u ≡ 4 → Stands ws v (at + 1)
    load-stands h =
        let s = o.stands in
        then-read (expression_in (s.rounds - 1) ws v s.stop (at + 1)) _ s.tree s.next (headed (begins s) (load-head h)) λ a mid r t.
        record { rounds = s.rounds - 1; stop = s.stop; tree = a; next = mid; reads = r }

    pub two_stand : u < 4 → StandTwo ws v (at + 1)
    two_stand h =
        let s = o.stands in
        then-read (expression_in (s.rounds - 1) ws v s.stop (at + 1)) _ s.tree s.next (headed (begins s) (binary-head h)) λ a mid r t.
        then-read (expression_in (s.rounds - 1) ws v s.stop mid) _ s.tree s.next t λ b next f g.
        record { rounds = s.rounds - 1; stop = s.stop; first = a; mid = mid; second = b; next = next; reads_first = r; reads_second = f }

pub begins-operator : {ws : List ℕ} {v at k : ℕ} → Stands ws v at → k ≡ kind (get_or ws at 0) → (k ≡ 7 → ⊥) → (k ≡ 8 → ⊥) → HasOperator ws v at
begins-operator s e f g = record { stands = s; no_constant = λ h. f (e ∙ h); no_variable = λ h. g (e ∙ h) }

-- ── By the first word ──

module _ {ws bs : List ℕ} {at : ℕ} (s : Stands ws (length bs) at) {k : ℕ} (e : k ≡ kind (get_or ws at 0)) where
  pub constant : {y z : ℤ} → k ≡ 7 → z ≡ signed (get_or ws at 0 % 16384) → y ≡ z → IsEvaluated ws bs at (record { value = Some y; next = at + 1 })
  unfolding value
  constant i f g =
      let x = constant-head s e refl i f in
      record { same = λ rounds stop tree next h. rw g (ap (evaluated_from (lent bs)) (headed (begun rounds h) x)); later = omega arith }

  pub variable : {u : ℕ} {n : Option ℤ} → u ≡ payload (get_or ws at 0) → k ≡ 8 → option_of n ≡ value_of (get_or bs u 0) → IsEvaluated ws bs at (record { value = n; next = at + 1 })
  unfolding value
  variable {u} d i f =
      let x = variable-head s e d i in
      record {
        same = λ rounds stop tree next h. rw (f, ← lent_at bs u (in_range s e d i)) (ap (evaluated_from (lent bs)) (headed (begun rounds h) x));
        later = omega arith;
      }

-- what follows an operator leads on from it
module _ {ws bs : List ℕ} {at : ℕ} (o : HasOperator ws (length bs) at) {u : ℕ} (d : u ≡ payload (get_or ws at 0)) {r : Evaluated} where
  pub loaded : u ≡ 4 → IsLoaded ws bs (at + 1) r → IsEvaluated ws bs at r
  loaded h y =
      let l = y.later in
      record { same = λ rounds stop tree next e. y.same (rounds - 1) stop tree next (headed (begun rounds e) (load-head o d h)); later = omega arith }

  pub operated_on : u < 4 → IsTwo ws bs u (at + 1) r → IsEvaluated ws bs at r
  operated_on h y =
      let l = y.later in
      record { same = λ rounds stop tree next e. y.same (rounds - 1) stop tree next (headed (begun rounds e) (binary-head o d h)); later = omega arith }

  -- the codes that are not used
  pub no_operator : 4 ≤ u → (u ≡ 4 → ⊥) → IsEvaluated ws bs at r
  no_operator h n = never o.stands (unknown_operator refl d (nine o) h n)

-- ── Operands ──

pub first-stands : {ws : List ℕ} {v at : ℕ} → StandTwo ws v at → Stands ws v at
first-stands s = record { rounds = s.rounds; stop = s.stop; tree = s.first; next = s.mid; reads = s.reads_first }

module _ {ws bs : List ℕ} {at : ℕ} {r : Evaluated} (y : IsEvaluated ws bs at r) where
  pub load_operand : {n : Option ℤ} → option_of n ≡ bind (option_of r.value) (load_of house_table) → IsLoaded ws bs at (record { value = n; next = r.next })
  unfolding value
  load_operand i =
      record {
        same = λ rounds stop tree next h.
            then-read (expression_in rounds ws (length bs) stop at) _ tree next h λ a mid q g.
            let x : evaluated r ≡ valued (value house_table (lent bs) a) mid = y.same rounds stop a mid q in
            let u : option_of r.value ≡ value house_table (lent bs) a = cc in
            let j : r.next ≡ mid = cc in
            rw (i, u, j) (ap (evaluated_from (lent bs)) g);
        later = y.later;
      }

  -- the second operand stands where the first ends
  pub second-stands : StandTwo ws (length bs) at → Stands ws (length bs) r.next
  second-stands s =
      let f : evaluated r ≡ valued (value house_table (lent bs) s.first) s.mid = y.same s.rounds s.stop s.first s.mid s.reads_first in
      let m : r.next ≡ s.mid = cc in
      record { rounds = s.rounds; stop = s.stop; tree = s.second; next = s.next; reads = rw m s.reads_second }

  module _ (k : ℕ) {t : Evaluated} (z : IsEvaluated ws bs r.next t) where
    pub operands : {n : Option ℤ} → option_of n ≡ operated (operator_of k) (option_of r.value) (option_of t.value) → IsTwo ws bs k at (record { value = n; next = t.next })
    unfolding value
    operands j =
        let l = y.later in
        let o = z.later in
        record {
          same = λ rounds stop tree next h.
              then-read (expression_in rounds ws (length bs) stop at) _ tree next h λ a mid q i.
              then-read (expression_in rounds ws (length bs) stop mid) _ tree next i λ b last w x.
              let c : evaluated r ≡ valued (value house_table (lent bs) a) mid = y.same rounds stop a mid q in
              let at_mid : r.next ≡ mid = cc in
              let d : evaluated t ≡ valued (value house_table (lent bs) b) last = z.same rounds stop b last (rw at_mid w) in
              let u : option_of r.value ≡ value house_table (lent bs) a = cc in
              let v : option_of t.value ≡ value house_table (lent bs) b = cc in
              let at_last : t.next ≡ last = cc in
              rw (j, u, v, at_last) (ap (evaluated_from (lent bs)) x);
          later = omega arith;
        }

-- ── The measure: three times the number of words from the position on, one more before its word is looked at and two more behind an operator ──

pub behind_measure : {ws : List ℕ} {v at n : ℕ} → Stands ws v at → 3 * (length ws - at) ≡ n → 3 * (length ws - (at + 1)) + 2 < n
behind_measure s d = let q = in_words s in omega arith

pub first_measure : (left : ℕ) {n : ℕ} → 3 * left + 2 ≡ n → 3 * left + 1 < n
first_measure left d = omega arith

pub second_measure : {ws bs : List ℕ} {at n : ℕ} {r : Evaluated} → StandTwo ws (length bs) at → IsEvaluated ws bs at r → 3 * (length ws - at) + 2 ≡ n → 3 * (length ws - r.next) + 1 < n
second_measure s y d = let h = in_words (first-stands s) in let q = y.later in omega arith

pub operand_measure : (left : ℕ) {n : ℕ} → 3 * left + 1 ≡ n → 3 * left < n
operand_measure left d = omega arith

pub ruleset evaluating = (rules, in_words, next_fits, in_range, constant, variable, begins-operator, operand_measure)

pub ruleset calling = (rules, in_words, next_fits, stands-operator, load-stands, two_stand, loaded, operated_on, no_operator, behind_measure)

pub ruleset operating = (rules, first-stands, second-stands, load_operand, operands, first_measure, second_measure)
