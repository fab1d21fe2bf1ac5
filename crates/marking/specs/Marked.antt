-- What the code tells of a marking: its entries where they stand, and where the entries of a place begin.
-- Rests on semantics/specs/Marking and colours/specs/Values.
use Rattle.std.specs.Prelude.{◌≡◌, ℕ, ◌+◌, ◌≤◌, ◌<◌, Bool, true, cond, List, [], ◌∷◌, eqb, ℤ, pos, length, get_or, take, Result, Ok, Err}
use Rattle.semantics.specs.declared.refusal.Refusal.{Refusal}
use Rattle.semantics.specs.declared.refusal.Refusal.TheVariants.{BadMarking}
use Rattle.semantics.specs.Answer.{refusing}
use Rattle.semantics.specs.Refusal.{bad_marking, bad_binding}
use Rattle.semantics.specs.Word.{Range}
use Rattle.semantics.specs.Reading.{Reading, read, then, values_in, ended, numbered}
use Rattle.semantics.specs.Net.{Place, Net}
use Rattle.semantics.specs.Order.{before}
use Rattle.semantics.specs.Marking.{Entry, key, read_entries, Counts, counts_of, marking_words}
use Rattle.expression.specs.Skip.{forget, skipped}
use Rattle.colours.specs.Values.{values_at}

-- ── One entry ──

abbrev pub entry_place : Entry → ℕ
entry_place e = e.place

-- the place of an entry that is read
abbrev pub entry_read : Result (ℕ × ℕ) Refusal → Reading ℕ
entry_read (Ok r) = read r.0 r.1
entry_read (Err e) = refusing e

-- ── All entries ──

-- refusal 7 by the places of a net
unfoldable pub marking_read : List Place → List ℕ → Reading (List Entry)
marking_read places ws = numbered bad_marking (read_entries (length ws) places ws [] 0)

-- the words of the entries with keys before a key: where that key's entry stands or would stand
unfoldable pub position_of : List Entry → List ℤ → ℕ
position_of [] k = 0
position_of (e ∷ es) k = cond (before (key e.place e.colour) k) (1 + length e.colour) 0 + position_of es k

-- where the entries of a place begin: those of lesser places stand before them
abbrev pub begin_of : List Entry → ℕ → ℕ
begin_of es p = position_of es (pos p ∷ [])

-- the numbers from one to another are a
pub record Begun (l : List ℕ) (from to a : ℕ) (r : List ℕ) : Type 0 where
  pub new : (p : ℕ) → from ≤ p → p < to → get_or r p 0 ≡ a
  pub old : (p : ℕ) → p < from → get_or r p 0 ≡ get_or l p 0

-- "out of order": the entry at a position, with n components, against the one before it; the first has none before it
abbrev pub rises_after : List ℕ → ℕ → ℕ → ℕ → ℕ → ℕ → Bool
rises_after ws last place at p n = cond (eqb at 0) true (before (key place (values_at ws n (last + 1))) (key p (values_at ws n (at + 1))))

-- where a marking ends or why it cannot be read, and a table of where the entries of each place begin
pub record IsMarking (places : List Place) (ws : List ℕ) (end : Result ℕ Refusal) (table : List ℕ) : Type 0 where
  pub same : skipped end ≡ forget (marking_read places ws)
  pub begins : (es : List Entry) (next : ℕ) → marking_read places ws ≡ read es next → (p : ℕ) → p ≤ 64 → get_or table p 0 ≡ begin_of es p

-- "m beyond its buffer, at the buffer's length; marking (in a run its words end at m)"
pub record IsMarkingIn (places : List Place) (buffer : List ℕ) (m : ℕ) (end : Result ℕ Refusal) (table : List ℕ) : Type 0 where
  pub beyond : length buffer < m → end ≡ Err (BadMarking (length buffer))
  pub within : m ≤ length buffer → IsMarking places (take m buffer) end table

-- ── Bindings ──

-- refusal 8 by the ranges of a transition's variables
unfoldable pub binding_read : List Range → List ℕ → Reading (List ℤ)
binding_read rs ws = numbered bad_binding (then (values_in ws rs 0) (λ b next. ended ws b next))

-- ── Where the entries of places begin ──

-- the places' beginnings in a marking, and where the last place ends; a table may have more numbers, of which nothing is said
pub record Begins (places : List Place) (es : List Entry) (begins : List ℕ) : Type 0 where
  pub at : (p : ℕ) → p ≤ length places → get_or begins p 0 ≡ begin_of es p

-- the places' beginnings in the marking of counts
pub record BeginsFor (net : Net) (m : Counts) (begins : List ℕ) : Type 0 where
  pub of : (es : List Entry) (next : ℕ) → marking_read net.places (marking_words net m) ≡ read es next → counts_of es ≡ m → Begins net.places es begins
