-- 01, "Words" and refusals 1 to 3: a net read from words, in one reading from the front.
-- Rests on Reading and Net.
use Rattle.std.specs.Prelude.{ℕ, zero, suc, ◌+◌, Bool, cond, ◌&&◌, List, leb, ltb, eqb, ℤ, length}
use Rattle.std.specs.Int.Signed.{le_z}
use Rattle.semantics.specs.Refusal.{bad_word, most_expression_words}
use Rattle.semantics.specs.Word.{kind, payload, bits, only, between, signed, Range}
use Rattle.semantics.specs.Expression.{Operator, add, subtract, multiply, remainder, Expression, constant, variable, binary, load}
use Rattle.semantics.specs.Reading.{Reading, read, refused, then, Reader, ◌>>=◌, give, here, several, demand, word_at, word}
use Rattle.semantics.specs.Net.{Place, Arc, Relation, equal, unequal, less, at_most, Conjunct, Sort, match, solve, range, Element, Transition, Net, ranges_at}

-- what the first word of an expression is
pub data Head : Type 0 where
  constant_head : ℤ → Head
  variable_head : ℕ → Head
  binary_head : Operator → Head
  load_head : Head

-- "OPERATOR: 0 add, 1 subtract, 2 multiply, 3 remainder, 4 load"
unfoldable pub operator_head : ℕ → ℕ → ℕ → Reading Head
operator_head code at next =
    cond (eqb code 0) (read (binary_head add) next)
    (cond (eqb code 1) (read (binary_head subtract) next)
    (cond (eqb code 2) (read (binary_head multiply) next)
    (cond (eqb code 3) (read (binary_head remainder) next)
    (cond (eqb code 4) (read load_head next)
    (refused bad_word at)))))

-- "CONSTANT: 0-13 value", "VARIABLE: 0-2 number", which is one of the transition's
unfoldable pub head_of : ℕ → ℕ → ℕ → ℕ → Reading Head
head_of variables w at next =
    cond (eqb (kind w) 7) (demand (only 14 (payload w)) at (read (constant_head (signed (payload w))) next))
    (cond (eqb (kind w) 8) (demand (ltb (payload w) variables) at (read (variable_head (payload w)) next))
    (cond (eqb (kind w) 9) (operator_head (payload w) at next)
    (refused bad_word at)))

-- the head at a position; a word that exists at the position `stop` is the sixteenth of its expression
unfoldable pub head_at : List ℕ → ℕ → ℕ → Reader Head
head_at ws variables stop at = then (word_at ws at) (λ w next. demand (ltb at stop) at (head_of variables w at next))

-- "An OPERATOR word is followed by its operands, each an expression: one for load, two for the rest."
abbrev pub operands : Reader Expression → Head → Reader Expression
operands r (constant_head z) = give (constant z)
operands r (variable_head n) = give (variable n)
operands r (binary_head o) = do
  a ← r
  b ← r
  give (binary o a b)
operands r load_head = do
  a ← r
  give (load a)

-- by rounds: each takes a word, and no word is taken from `stop` on
unfoldable pub expression_in : ℕ → List ℕ → ℕ → ℕ → Reader Expression
expression_in zero ws variables stop = λ at. refused bad_word at
expression_in (suc n) ws variables stop = do
  t ← head_at ws variables stop
  operands (expression_in n ws variables stop) t

-- "an expression at most 15" words
unfoldable pub read_expression : List ℕ → ℕ → Reader Expression
read_expression ws variables at = expression_in (most_expression_words + 1) ws variables (at + most_expression_words) at

-- "RANGE: 14-27 low value, 0-13 high value, low ≤ high"
unfoldable pub read_range : List ℕ → Reader Range
read_range ws = do
  w ← word ws 3 (λ w. le_z (signed (bits 14 27 w)) (signed (bits 0 13 w)))
  give (record { low = signed (bits 14 27 w); high = signed (bits 0 13 w) })

-- "PLACE: 0-2 components n (1 to 4)"; "each PLACE and n RANGEs"
unfoldable pub read_place : List ℕ → Reader Place
read_place ws = do
  p ← here
  n ← word ws 2 (between 1 4)
  rs ← several n (read_range ws)
  give (record { position = p; ranges = rs })

-- "ARC: 0-7 place"; "An arc is ARC, a coefficient expression and n component expressions."
unfoldable pub read_arc : List ℕ → List Place → ℕ → Reader Arc
read_arc ws places variables = do
  p ← here
  q ← word ws 5 (λ q. ltb q (length places))
  c ← read_expression ws variables
  es ← several (length (ranges_at places q)) (read_expression ws variables)
  give (record { position = p; place = q; coefficient = c; components = es })

-- "relation: 0 =, 1 ≠, 2 <, 3 ≤"
abbrev pub relation_of : ℕ → Relation
relation_of k = cond (eqb k 0) equal (cond (eqb k 1) unequal (cond (eqb k 2) less at_most))

-- "A conjunct is its word and two expressions."
unfoldable pub read_conjunct : List ℕ → ℕ → Reader Conjunct
read_conjunct ws variables = do
  p ← here
  k ← word ws 6 (λ k. only 2 k)
  a ← read_expression ws variables
  b ← read_expression ws variables
  give (record { position = p; relation = relation_of k; left = a; right = b })

-- "8-9 sort: 0 match, 1 solve, 2 range; 0-7 number"
abbrev pub sort_of : ℕ → ℕ → Sort
sort_of k n = cond (eqb k 0) (match n) (cond (eqb k 1) (solve n) (range n))

-- "an ELEMENT's number is judged by 5, its sort here"
unfoldable pub read_element : List ℕ → Reader Element
read_element ws = do
  p ← here
  w ← word ws 0xA (λ w. only 10 w && leb (bits 8 9 w) 2)
  give (record { position = p; sort = sort_of (bits 8 9 w) (bits 0 7 w) })

-- "TRANSITION: 0-3 variables V, 4-7 input arcs I, 8-11 output arcs O, 12-15 conjuncts G, 16-19 plan elements E; each 0 to 8"
abbrev pub transition_word : ℕ → Bool
transition_word w = only 20 w && leb (bits 0 3 w) 8 && leb (bits 4 7 w) 8 && leb (bits 8 11 w) 8 && leb (bits 12 15 w) 8 && leb (bits 16 19 w) 8

-- "A transition is its word, V RANGEs, I input arcs, O output arcs, G conjuncts (the guard), E elements."
unfoldable pub read_transition : List ℕ → List Place → Reader Transition
read_transition ws places = do
  p ← here
  w ← word ws 4 transition_word
  vs ← several (bits 0 3 w) (read_range ws)
  is ← several (bits 4 7 w) (read_arc ws places (bits 0 3 w))
  os ← several (bits 8 11 w) (read_arc ws places (bits 0 3 w))
  gs ← several (bits 12 15 w) (read_conjunct ws (bits 0 3 w))
  es ← several (bits 16 19 w) (read_element ws)
  give (record { position = p; variables = vs; inputs = is; outputs = os; guard = gs; plan = es })

-- "NET: 8-15 places P (1 to 64), 0-7 transitions T (1 to 64)"
abbrev pub net_word : ℕ → Bool
net_word w = only 16 w && between 1 64 (bits 8 15 w) && between 1 64 (bits 0 7 w)

-- "A net is NET; P places, each PLACE and n RANGEs; T transitions."
unfoldable pub read_net : List ℕ → Reader Net
read_net ws = do
  w ← word ws 1 net_word
  ps ← several (bits 8 15 w) (read_place ws)
  ts ← several (bits 0 7 w) (read_transition ws ps)
  give (record { places = ps; transitions = ts })
