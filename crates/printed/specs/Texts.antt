-- The printed text in parts: a part for each transition, or one for input that is refused. The definitions follow those of `printed`,
-- with a list of texts in place of the whole text. proofs/Whole.antt shows that the parts in their order are `printed`.
-- Rests on semantics/specs/Print.
use Rattle.std.specs.Prelude.{ℕ, zero, suc, ◌/◌, cond, List, [], ◌∷◌, ◌++◌, leb, length, get_or, drop}
use Rattle.semantics.specs.Refusal.{net_too_long, net_ends_early, most_words}
use Rattle.semantics.specs.Word.{words_of_bytes}
use Rattle.semantics.specs.Expression.{house_table}
use Rattle.semantics.specs.Reading.{Reading, read, refused}
use Rattle.semantics.specs.Net.{Transition, Net}
use Rattle.semantics.specs.Plan.{accept_front}
use Rattle.semantics.specs.Marking.{Entry, Counts, read_marking, counts_of}
use Rattle.semantics.specs.Run.{offer}
use Rattle.semantics.specs.Calls.{whole_words}
use Rattle.semantics.specs.Print.{bad_input, offer_text}

unfoldable pub menu_texts : Net → Counts → ℕ → List Transition → List (List ℕ)
menu_texts net m i [] = []
menu_texts net m i (t ∷ ts) = offer_text i (offer house_table net 1000000 4096 t m) ∷ menu_texts net m (suc i) ts

abbrev pub marking_texts : Net → Reading (List Entry) → List (List ℕ)
marking_texts net (read es next) = menu_texts net (counts_of es) 0 net.transitions
marking_texts net (refused n p) = bad_input n p ∷ []

abbrev pub net_texts : List ℕ → Reading Net → List (List ℕ)
net_texts ws (read net next) = marking_texts net (read_marking net (drop next ws))
net_texts ws (refused n p) = bad_input n p ∷ []

unfoldable pub texts : List ℕ → List (List ℕ)
texts bytes =
    cond (leb (length bytes) 65536)
    (cond (whole_words bytes) (net_texts (words_of_bytes bytes) (accept_front (words_of_bytes bytes))) (bad_input net_ends_early (length bytes / 4) ∷ []))
    (bad_input net_too_long most_words ∷ [])

-- how many parts there are, and the part of a number, none past the last
abbrev pub parts : List ℕ → ℕ
parts bytes = length (texts bytes)

abbrev pub part_text : List ℕ → ℕ → List ℕ
part_text bytes i = get_or (texts bytes) i []

-- the first n parts, one after the other
unfoldable pub first_parts : List ℕ → ℕ → List ℕ
first_parts bytes zero = []
first_parts bytes (suc n) = first_parts bytes n ++ part_text bytes n
