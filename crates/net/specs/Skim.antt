-- Reading a net for its positions alone: where structures begin, without the data that semantics reads. proofs/Skimming.antt shows that
-- these readings are those of semantics with the data left out. Rests on semantics.
use Rattle.std.specs.Prelude.{ℕ, zero, suc, cond, List, [], ◌∷◌, map, ltb, eqb, length, get_or}
use Rattle.expression.specs.Skip.{forget}
use Rattle.kinds.specs.Taken.{fits_kind}
use Rattle.semantics.specs.Word.{bits}
use Rattle.semantics.specs.Reading.{Reading, read, refused, then, Reader, ◌>>=◌, give, word}
use Rattle.semantics.specs.Net.{Place, Arc, Conjunct, Element, Transition, Net}
use Rattle.semantics.specs.ReadNet.{read_expression}

-- what was read, changed
abbrev pub changed : {A B : Type 0} → (A → B) → Reading A → Reading B
changed f (read a next) = read (f a) next
changed f (refused n p) = refused n p

-- the positions at which so many structures begin
unfoldable pub starts : ℕ → Reader (Unit {0}) → Reader (List ℕ)
starts zero r = give []
starts (suc n) r = λ at. then (r at) (λ u next. then (starts n r next) (λ ps end. read (at ∷ ps) end))

abbrev pub skim_range : List ℕ → Reader (Unit {0})
skim_range ws at = forget (word ws 3 (fits_kind 3) at)

abbrev pub skim_expression : List ℕ → ℕ → Reader (Unit {0})
skim_expression ws v at = forget (read_expression ws v at)

-- `widths` has the number of components of each place
unfoldable pub skim_arc : List ℕ → List ℕ → ℕ → Reader (Unit {0})
skim_arc ws widths v = do
  q ← word ws 5 (λ q. ltb q (length widths))
  c ← skim_expression ws v
  λ at. forget (starts (get_or widths q 0) (skim_expression ws v) at)

unfoldable pub skim_conjunct : List ℕ → ℕ → Reader (Unit {0})
skim_conjunct ws v = do
  k ← word ws 6 (fits_kind 6)
  a ← skim_expression ws v
  skim_expression ws v

-- a structure by the code of its first word: an arc, a conjunct, or a word by itself
unfoldable pub skim_one : List ℕ → List ℕ → ℕ → ℕ → Reader (Unit {0})
skim_one ws widths v k at = cond (eqb k 5) (skim_arc ws widths v at) (cond (eqb k 6) (skim_conjunct ws v at) (forget (word ws k (fits_kind k) at)))

-- where the parts of a transition begin
pub record Outline : Type 0 where
  pub variables : ℕ
  pub inputs : List ℕ
  pub outputs : List ℕ
  pub guard : List ℕ
  pub plan : List ℕ

abbrev pub outline : Transition → Outline
outline t =
    record {
      variables = length t.variables;
      inputs = map (λ (a : Arc). a.position) t.inputs;
      outputs = map (λ (a : Arc). a.position) t.outputs;
      guard = map (λ (c : Conjunct). c.position) t.guard;
      plan = map (λ (e : Element). e.position) t.plan;
    }

unfoldable pub skim_transition : List ℕ → List ℕ → Reader Outline
skim_transition ws widths = do
  w ← word ws 4 (fits_kind 4)
  u ← λ at. forget (starts (bits 0 3 w) (skim_one ws widths (bits 0 3 w) 3) at)
  is ← starts (bits 4 7 w) (skim_one ws widths (bits 0 3 w) 5)
  os ← starts (bits 8 11 w) (skim_one ws widths (bits 0 3 w) 5)
  gs ← starts (bits 12 15 w) (skim_one ws widths (bits 0 3 w) 6)
  es ← starts (bits 16 19 w) (skim_one ws widths (bits 0 3 w) 0xA)
  give (record { variables = bits 0 3 w; inputs = is; outputs = os; guard = gs; plan = es })

-- a place's number of components
abbrev pub width : Place → ℕ
width q = length q.ranges

unfoldable pub skim_place : List ℕ → Reader ℕ
skim_place ws = do
  n ← word ws 2 (fits_kind 2)
  u ← λ at. forget (starts n (skim_one ws [] 0 3) at)
  give n

-- the positions of so many places, and their widths
unfoldable pub skim_places : ℕ → List ℕ → Reader (List (ℕ × ℕ))
skim_places zero ws = give []
skim_places (suc n) ws = λ at. then (skim_place ws at) (λ k next. then (skim_places n ws next) (λ ps end. read ((at, k) ∷ ps) end))

-- where places and transitions begin, and the places' widths
pub record NetOutline : Type 0 where
  pub places : List (ℕ × ℕ)
  pub transitions : List ℕ

abbrev pub net_outline : Net → NetOutline
net_outline net = record { places = map (λ (q : Place). (q.position, width q)) net.places; transitions = map (λ (t : Transition). t.position) net.transitions }

-- a transition of a net whose places have these widths
abbrev pub skim_transitions : List ℕ → List ℕ → Reader (Unit {0})
skim_transitions ws widths at = forget (skim_transition ws widths at)

unfoldable pub skim_net : List ℕ → Reader NetOutline
skim_net ws = do
  w ← word ws 1 (fits_kind 1)
  ps ← skim_places (bits 8 15 w) ws
  ts ← starts (bits 0 7 w) (skim_transitions ws (map (λ (p : ℕ × ℕ). p.1) ps))
  give (record { places = ps; transitions = ts })
