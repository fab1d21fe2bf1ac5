-- 01, "Words": markings, bindings and picks as words, with refusals 6 to 9; the counts of a marking, and its words again.
-- Rests on Reading, Net and Order.
use Rattle.std.specs.Prelude.{◌≡◌, ℕ, zero, suc, ◌+◌, ◌≤◌, ◌<◌, Bool, true, cond, not, ◌&&◌, leb, ltb, eqb, ℤ, pos, length}
use mathlib.Core.List.{List, [], ◌∷◌, ◌++◌, map, flat_map}
use Rattle.std.proofs.Math.Option.{Option, none, some}
use Rattle.semantics.specs.Refusal.{bad_marking, bad_binding, most_count}
use Rattle.semantics.specs.Word.{kind, payload, bits, only, token_word, value_word}
use Rattle.semantics.specs.Reading.{Reading, read, then, Reader, ◌>>=◌, give, demand, word, values_in, ended, numbered}
use Rattle.semantics.specs.Net.{Place, Transition, Net, ranges_at}
use Rattle.semantics.specs.Order.{same_tuple, before, tuples, in_ranges}

-- an entry of a marking
pub record Entry : Type 0 where
  pub place : ℕ
  pub count : ℕ
  pub colour : List ℤ

-- a place and a colour as one tuple, so that entries are ordered "by place, then by components, first one first"
abbrev pub key : ℕ → List ℤ → List ℤ
key p c = pos p ∷ c

-- "TOKEN: 14-21 place, 0-13 count (1 to 16,383)"; "entries of TOKEN and n VALUEs, each value in the place's range"
unfoldable pub read_entry : List Place → List ℕ → Reader Entry
read_entry places ws = do
  w ← word ws 0xB (λ w. only 22 w && ltb (bits 14 21 w) (length places) && leb 1 (bits 0 13 w))
  c ← values_in ws (ranges_at places (bits 14 21 w))
  give (record { place = bits 14 21 w; count = bits 0 13 w; colour = c })

-- "out of order (at its TOKEN, once the entry's words are good)"; `last` is the key before, none at first
abbrev pub rising : List ℤ → Entry → ℕ → Reader Entry
rising last e p = λ at. demand (before last (key e.place e.colour)) p (read e at)

-- the entries up to the end of the words; each has two words or more, so as many rounds as words are enough
unfoldable pub read_entries : ℕ → List Place → List ℕ → List ℤ → Reader (List Entry)
read_entries zero places ws last = ended ws []
read_entries (suc n) places ws last = λ at. cond (leb (length ws) at) (read [] at) (then (read_entry places ws at) (λ e next. then (rising last e at next) (λ e next. then (read_entries n places ws (key e.place e.colour) next) (λ es next. read (e ∷ es) next))))

-- refusal 7 of a marking's words; the reader refuses the word 16,384, "over length"
unfoldable pub read_marking : Net → List ℕ → Reading (List Entry)
read_marking net ws = numbered bad_marking (read_entries (length ws) net.places ws [] 0)

-- "A binding is V VALUEs, each in its variable's range." Refusal 8.
unfoldable pub read_binding : Transition → List ℕ → Reading (List ℤ)
read_binding t ws = numbered bad_binding (then (values_in ws t.variables 0) (λ b next. ended ws b next))

-- "PICK: 14-21 transition, 0-13 index"
abbrev pub is_pick : ℕ → Bool
is_pick w = eqb (kind w) 0xD && only 22 (payload w)

abbrev pub pick_transition : ℕ → ℕ
pick_transition w = bits 14 21 w

abbrev pub pick_index : ℕ → ℕ
pick_index w = bits 0 13 w

-- the position of the first word that passes a test, the first word being at `at`
unfoldable pub first_that : (ℕ → Bool) → List ℕ → ℕ → Option ℕ
first_that p [] at = none
first_that p (w ∷ ws) at = let later = first_that p ws (at + 1) in cond (p w) (some at) later

-- 6: "in a run, that of the first well-formed such pick"
abbrev pub first_unknown : ℕ → List ℕ → Option ℕ
first_unknown transitions picks = first_that (λ w. is_pick w && leb transitions (pick_transition w)) picks 0

-- 9: "pick of wrong kind or stray bits"
abbrev pub first_malformed : List ℕ → Option ℕ
first_malformed picks = first_that (λ w. not (is_pick w)) picks 0

-- A count for each place and colour.
abbrev pub Counts : Type 0
Counts = ℕ → List ℤ → ℕ

-- Counts whose words are a marking if they are no more than 16,384: colours of the net's places alone, and none above 16,383.
pub record Proper (net : Net) (m : Counts) : Type 0 where
  pub placed : (p : ℕ) (c : List ℤ) → 1 ≤ m p c → p < length net.places
  pub ranged : (p : ℕ) (c : List ℤ) → 1 ≤ m p c → in_ranges (ranges_at net.places p) c ≡ true
  pub limited : (p : ℕ) (c : List ℤ) → m p c ≤ most_count

unfoldable pub counts_of : List Entry → Counts
counts_of [] p c = 0
counts_of (e ∷ es) p c = cond (eqb e.place p && same_tuple e.colour c) e.count 0 + counts_of es p c

-- the words of a place and colour with a count: "counts of 0 left out"
unfoldable pub entry_words : ℕ → List ℤ → ℕ → List ℕ
entry_words p c zero = []
entry_words p c (suc n) = token_word p (suc n) ∷ map value_word c

-- the words of the places from the number p on
unfoldable pub words_from : ℕ → List Place → Counts → List ℕ
words_from p [] m = []
words_from p (q ∷ qs) m = flat_map (λ c. entry_words p c (m p c)) (tuples q.ranges) ++ words_from (suc p) qs m

-- counts as marking words
unfoldable pub marking_words : Net → Counts → List ℕ
marking_words net m = words_from 0 net.places m
