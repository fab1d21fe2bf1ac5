-- Taking a word: what the tests of src/take.rt tell, and a law for each return of `take`. Rests on specs/Taken.
use mathlib.Core.Path.{◌≡◌, refl, sym, ◌∙◌}
use mathlib.Core.Bool.{Bool, true, false}
use mathlib.Core.List.{List}
use Rattle.std.specs.Prelude.{Ok, Err}
use Prim.Native.Nat.{ℕ, ◌<◌, ◌≤◌}
use lib.ListN.{length, get_or}
use borrow.Author.Rules.{rules}
use borrow.Author.Tests.{lt-ltb, le-ltb, le-leb, lt-leb, eq-eqb, ne_eqb}
use Rattle.semantics.specs.Refusal.{most_words}
use Rattle.semantics.specs.Word.{kind, payload}
use Rattle.semantics.specs.Reading.{word_at, word}
use Rattle.semantics.specs.declared.refusal.Refusal.TheVariants.{NetTooLong, NetEndsEarly, BadWord}
use Rattle.kinds.specs.Taken.{fits_kind, IsTaken}

-- for the tests of one field after another
pub ruleset tests = (rules, lt-ltb, le-ltb, le-leb, lt-leb, eq-eqb, ne_eqb)

pub ends_early : (ws : List ℕ) (at k : ℕ) → length ws ≤ at → IsTaken ws at k (Err (NetEndsEarly (length ws)))
unfolding word word_at
ends_early ws at k h = record { same = rw (le-leb (length ws) at h) refl; exists = tt }

pub too_long : (ws : List ℕ) (at k : ℕ) → at < length ws → most_words ≤ at → IsTaken ws at k (Err (NetTooLong most_words))
unfolding word word_at
too_long ws at k h l = record { same = rw (lt-leb (length ws) at h, le-leb most_words at l) refl; exists = tt }

-- a word that exists, and its kind t
module _ (ws : List ℕ) (at k t : ℕ) (h : at < length ws) (l : at < most_words) (e : t ≡ kind (get_or ws at 0)) where
  pub other-kind : (t ≡ k → ⊥) → IsTaken ws at k (Err (BadWord at))
  unfolding word word_at
  other-kind d = record { same = rw (lt-leb (length ws) at h, lt-leb most_words at l, ← e, ne_eqb t k d) refl; exists = tt }

  -- of the kind k, its 28 bits p, and whether they fit
  module _ (s : t ≡ k) (p : ℕ) (f : p ≡ payload (get_or ws at 0)) (b : Bool) (g : b ≡ fits_kind k p) where
    pub unfit : b ≡ false → IsTaken ws at k (Err (BadWord at))
    unfolding word word_at
    unfit u = record { same = rw (lt-leb (length ws) at h, lt-leb most_words at l, ← e, eq-eqb t k s, ← f, ← g, u) refl; exists = tt }

    pub fit : b ≡ true → IsTaken ws at k (Ok p)
    unfolding word word_at
    fit u = record { same = rw (lt-leb (length ws) at h, lt-leb most_words at l, ← e, eq-eqb t k s, ← f, ← g, u) refl; exists = record { in_words = h; in_limit = l; fits = sym g ∙ u } }
