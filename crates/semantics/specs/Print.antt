-- 01, "The printed menu": the bytes that the program writes for the bytes that it reads.
-- Rests on Calls.
use Rattle.std.specs.Prelude.{ℕ, zero, suc, ◌+◌, ◌/◌, ◌%◌, cond, leb, ltb, ℤ, pos, negsuc, length, drop}
use mathlib.Core.List.{List, [], ◌∷◌, ◌++◌, flat_map}
use Rattle.semantics.specs.Refusal.{net_too_long, net_ends_early, most_words}
use Rattle.semantics.specs.Word.{words_of_bytes}
use Rattle.semantics.specs.Expression.{house_table}
use Rattle.semantics.specs.Reading.{Reading, read, refused}
use Rattle.semantics.specs.Net.{Transition, Net}
use Rattle.semantics.specs.Plan.{accept_front}
use Rattle.semantics.specs.Marking.{Entry, Counts, read_marking, counts_of}
use Rattle.semantics.specs.Run.{Offer, offered, withheld, offer}
use Rattle.semantics.specs.Calls.{whole_words}

-- the decimal digits of a number, by rounds: as many as digits are enough
unfoldable pub digits_in : ℕ → ℕ → List ℕ
digits_in zero n = []
digits_in (suc k) n = cond (ltb n 10) [] (digits_in k (n / 10)) ++ ((48 + n % 10) ∷ [])

-- numbers here are below 2^64, which has twenty digits
abbrev pub decimal : ℕ → List ℕ
decimal n = digits_in 20 n

-- a value, with a `-` where it is negative
abbrev pub signed_decimal : ℤ → List ℕ
signed_decimal (pos n) = decimal n
signed_decimal (negsuc n) = 45 ∷ decimal (suc n)

-- the text `refused`
abbrev pub refused_text : List ℕ
refused_text = 114 ∷ 101 ∷ 102 ∷ 117 ∷ 115 ∷ 101 ∷ 100 ∷ []

-- "One space parts the fields of a line", and a line ends in a line feed; a line without fields is empty
unfoldable pub after_first : List (List ℕ) → List ℕ
after_first [] = 10 ∷ []
after_first (f ∷ fs) = 32 ∷ f ++ after_first fs

abbrev pub line : List (List ℕ) → List ℕ
line [] = 10 ∷ []
line (f ∷ fs) = f ++ after_first fs

-- "Bad input prints only `refused`, number, position"
abbrev pub bad_input : ℕ → ℕ → List ℕ
bad_input n p = line (refused_text ∷ decimal n ∷ decimal p ∷ [])

unfoldable pub fields : List ℤ → List (List ℕ)
fields [] = []
fields (z ∷ zs) = signed_decimal z ∷ fields zs

-- "A line per transition has its number, N and W, then a line per binding with its values. A menu refused prints the transition, `refused` and the number."
abbrev pub offer_text : ℕ → Offer → List ℕ
offer_text i (offered bs w) = line (decimal i ∷ decimal (length bs) ∷ decimal w ∷ []) ++ flat_map (λ b. line (fields b)) bs
offer_text i (withheld n) = line (decimal i ∷ refused_text ∷ decimal n ∷ [])

-- "runs each menu with budget 1,000,000 and 4,096 words", the transitions from the number i on
unfoldable pub menus_text : Net → Counts → ℕ → List Transition → List ℕ
menus_text net m i [] = []
menus_text net m i (t ∷ ts) = offer_text i (offer house_table net 1000000 4096 t m) ++ menus_text net m (suc i) ts

abbrev pub marking_text : Net → Reading (List Entry) → List ℕ
marking_text net (read es next) = menus_text net (counts_of es) 0 net.transitions
marking_text net (refused n p) = bad_input n p

-- "A marking's position counts from its own first word."
abbrev pub net_text : List ℕ → Reading Net → List ℕ
net_text ws (read net next) = marking_text net (read_marking net (drop next ws))
net_text ws (refused n p) = bad_input n p

-- "over 65,536 bytes is 1 at 16384, before all else"; "spare bytes: 2 at the count of whole words, before any word is read"
unfoldable pub printed : List ℕ → List ℕ
printed bytes =
    cond (leb (length bytes) 65536)
    (cond (whole_words bytes) (net_text (words_of_bytes bytes) (accept_front (words_of_bytes bytes))) (bad_input net_ends_early (length bytes / 4)))
    (bad_input net_too_long most_words)
