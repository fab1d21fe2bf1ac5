-- Reading words from the front: what a reader gives, how readers follow each other, and how one word is taken.
-- Rests on Refusal and Word.
use Rattle.std.specs.Prelude.{ℕ, zero, suc, ◌+◌, Bool, true, false, cond, ◌&&◌, List, [], ◌∷◌, leb, eqb, ℤ, length, get_or}
use Rattle.semantics.specs.Refusal.{net_too_long, net_ends_early, bad_word, most_words}
use Rattle.semantics.specs.Word.{kind, payload, only, signed, Range, within}

-- something read and the position after it, or a refusal's number and position
pub data Reading (A : Type 0) : Type 0 where
  read : A → ℕ → Reading A
  refused : ℕ → ℕ → Reading A

abbrev pub then : {A B : Type 0} → Reading A → (A → ℕ → Reading B) → Reading B
then (read a next) k = k a next
then (refused n p) k = refused n p

-- A reader starts at a position.
abbrev pub Reader : Type 0 → Type 0
Reader A = ℕ → Reading A

abbrev pub ◌>>=◌ : {A B : Type 0} → Reader A → (A → Reader B) → Reader B
◌>>=◌ r k = λ at. then (r at) k

-- nothing is read
abbrev pub give : {A : Type 0} → A → Reader A
give a = λ at. read a at

-- the position
abbrev pub here : Reader ℕ
here = λ at. read at at

-- as many as a number says
unfoldable pub several : {A : Type 0} → ℕ → Reader A → Reader (List A)
several zero r = give []
several (suc n) r = do
  a ← r
  rest ← several n r
  give (a ∷ rest)

-- a reading that goes on only where a test passes, refused at a word otherwise
abbrev pub demand : {A : Type 0} → Bool → ℕ → Reading A → Reading A
demand true p r = r
demand false p r = refused bad_word p

-- the word at a position: 2 where the words end there, 1 where it is the word 16,384
unfoldable pub word_at : List ℕ → Reader ℕ
word_at ws at = cond (leb (length ws) at) (refused net_ends_early (length ws)) (cond (leb most_words at) (refused net_too_long most_words) (read (get_or ws at 0) (at + 1)))

-- the 28 bits of a word of a kind that pass a test; any other word is 3
unfoldable pub word : List ℕ → ℕ → (ℕ → Bool) → Reader ℕ
word ws k ok at = then (word_at ws at) (λ w next. demand (eqb (kind w) k && ok (payload w)) at (read (payload w) next))

-- VALUE words, one in each of the ranges
unfoldable pub values_in : List ℕ → List Range → Reader (List ℤ)
values_in ws [] = give []
values_in ws (r ∷ rs) = do
  v ← word ws 0xC (λ v. only 14 v && within r (signed v))
  vs ← values_in ws rs
  give (signed v ∷ vs)

-- the words have come to their end; a word that is left is refused
abbrev pub ended : {A : Type 0} → List ℕ → A → Reader A
ended ws a = λ at. demand (leb (length ws) at) at (read a at)

-- the same reading, whatever refuses it having one number
abbrev pub numbered : {A : Type 0} → ℕ → Reading A → Reading A
numbered n (read a next) = read a next
numbered n (refused m p) = refused n p
