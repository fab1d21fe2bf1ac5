-- The words of an expression that was read: the first says what it is, and the words of its operands follow (`Spelled`).
-- The proof follows the reader. Rests on semantics/proofs/Readers.
use mathlib.Core.Path.{◌≡◌, refl}
use mathlib.Core.List.{List}
use Prim.Native.Nat.{ℕ, zero, suc, ◌+◌, ◌<◌}
use borrow.Author.Tests.{leb-false, ltb-true, eqb-true}
use lib.Dec.{leb, ltb, eqb}
use lib.ListN.{length, get_or}
use Rattle.semantics.specs.Refusal.{most_words, most_expression_words}
use Rattle.semantics.specs.Word.{kind, payload, only, signed}
use Rattle.semantics.specs.Expression.{Expression, constant, variable, binary, load}
use Rattle.semantics.specs.Reading.{read, word_at}
use Rattle.semantics.specs.ReadNet.{Head, constant_head, variable_head, binary_head, load_head, operator_head, head_of, head_at, operands, expression_in, read_expression}
use Rattle.semantics.proofs.Readers.{Gives, gives, refusal, given, then_gives, demand_gives, cond_gives, weaken}

-- a position that an expression may take
pub record Open (ws : List ℕ) (stop at : ℕ) : Type 0 where
  pub in_words : at < length ws
  pub in_limit : at < most_words
  pub before-stop : at < stop

-- what the word w says of the head that it is
abbrev pub HeadWord : ℕ → Head → Type 0
HeadWord w (constant_head z) = (kind w ≡ 7) × (payload w < 16384) × (z ≡ signed (payload w))
HeadWord w (variable_head n) = (kind w ≡ 8) × (n ≡ payload w)
HeadWord w (binary_head o) = kind w ≡ 9
HeadWord w load_head = kind w ≡ 9

abbrev pub head_of_tree : Expression → Head
head_of_tree (constant z) = constant_head z
head_of_tree (variable n) = variable_head n
head_of_tree (binary o a b) = binary_head o
head_of_tree (load a) = load_head

-- the words from a position to another are an expression's; none stands at `stop` or after it
abbrev pub Spelled : List ℕ → ℕ → ℕ → Expression → ℕ → Type 0
Spelled ws stop at (constant z) next = Open ws stop at × HeadWord (get_or ws at 0) (constant_head z) × (next ≡ at + 1)
Spelled ws stop at (variable n) next = Open ws stop at × HeadWord (get_or ws at 0) (variable_head n) × (next ≡ at + 1)
Spelled ws stop at (binary o a b) next = Open ws stop at × HeadWord (get_or ws at 0) (binary_head o) × ((mid : ℕ) × Spelled ws stop (at + 1) a mid × Spelled ws stop mid b next)
Spelled ws stop at (load a) next = Open ws stop at × HeadWord (get_or ws at 0) load_head × Spelled ws stop (at + 1) a next

module _ (ws : List ℕ) where
  word_at_gives : (at : ℕ) → Gives (λ w next. (w ≡ get_or ws at 0) × (at < length ws) × (at < most_words) × (next ≡ at + 1)) (word_at ws at)
  unfolding word_at
  word_at_gives at =
      cond_gives (leb (length ws) at) (λ e. refusal) λ e.
      cond_gives (leb most_words at) (λ d. refusal) λ d.
      gives (refl, leb-false (length ws) at e, leb-false most_words at d, refl)

  operator_gives : (w at next : ℕ) → kind w ≡ 9 → Gives (λ h mid. HeadWord w h × (mid ≡ next)) (operator_head (payload w) at next)
  unfolding operator_head
  operator_gives w at next k =
      cond_gives (eqb (payload w) 0) (λ e. gives (k, refl)) λ e.
      cond_gives (eqb (payload w) 1) (λ e. gives (k, refl)) λ e.
      cond_gives (eqb (payload w) 2) (λ e. gives (k, refl)) λ e.
      cond_gives (eqb (payload w) 3) (λ e. gives (k, refl)) λ e.
      cond_gives (eqb (payload w) 4) (λ e. gives (k, refl)) λ e.
      refusal

  module _ (variables stop : ℕ) where
    head_of_gives : (w at next : ℕ) → Gives (λ h mid. HeadWord w h × (mid ≡ next)) (head_of variables w at next)
    unfolding head_of
    head_of_gives w at next =
        cond_gives (eqb (kind w) 7) (λ e. demand_gives (only 14 (payload w)) at λ d. gives ((eqb-true (kind w) 7 e, ltb-true (payload w) 16384 d, refl), refl)) λ e.
        cond_gives (eqb (kind w) 8) (λ e. demand_gives (ltb (payload w) variables) at λ d. gives ((eqb-true (kind w) 8 e, refl), refl)) λ e.
        cond_gives (eqb (kind w) 9) (λ e. operator_gives w at next (eqb-true (kind w) 9 e)) λ e.
        refusal

    head_at_gives : (at : ℕ) → Gives (λ h next. Open ws stop at × HeadWord (get_or ws at 0) h × (next ≡ at + 1)) (head_at ws variables stop at)
    unfolding head_at
    head_at_gives at =
        then_gives (word_at_gives at) λ w next h.
        demand_gives (ltb at stop) at λ e.
        weaken (λ t mid s. (record { in_words = h.1; in_limit = h.2; before-stop = ltb-true at stop e }, rw (← h.0) s.0, rw s.1 h.3)) (head_of_gives w at next)

    rounds-give : (n at : ℕ) → Gives (Spelled ws stop at) (expression_in n ws variables stop at)
    unfolding expression_in
    rounds-give zero at = refusal
    rounds-give (suc n) at = then_gives (head_at_gives at) (by (rounds-give n))
      where
        by : ((mid : ℕ) → Gives (Spelled ws stop mid) (expression_in n ws variables stop mid)) → (t : Head) (mid : ℕ) → Open ws stop at × HeadWord (get_or ws at 0) t × (mid ≡ at + 1) → Gives (Spelled ws stop at) (operands (expression_in n ws variables stop) t mid)
        by l (constant_head z) mid h = gives h
        by l (variable_head m) mid h = gives h
        by l (binary_head o) mid h =
            then_gives (l mid) λ a last p.
            then_gives (l last) λ b next q.
            gives (h.0, h.1, (last, rw h.2 at p, q))
        by l load_head mid h = then_gives (l mid) λ a next p. gives (h.0, h.1, rw h.2 at p)

pub spelled : (ws : List ℕ) (variables at : ℕ) {e : Expression} {next : ℕ} → read_expression ws variables at ≡ read e next → Spelled ws (at + most_expression_words) at e next
unfolding read_expression
spelled ws variables at x = given (rounds-give ws variables (at + most_expression_words) (most_expression_words + 1) at) x
