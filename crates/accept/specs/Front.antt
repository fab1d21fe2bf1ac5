-- What the answers of src/accepted and src/split say.
-- Rests on semantics/specs/Calls.
use Rattle.std.specs.Prelude.{◌≡◌, ℕ, ◌≤◌, cond, ltb, length, take, Option, Some, None, Result, Ok, Err}
use mathlib.Core.List.{List, zip}
use Rattle.semantics.specs.Refusal.{words_left}
use Rattle.semantics.specs.declared.refusal.Refusal.{Refusal}
use Rattle.semantics.specs.declared.refusal.Refusal.TheVariants.{WordsLeft, UnfitPlan}
use Rattle.semantics.specs.Reading.{Reading, read, refused, then}
use Rattle.semantics.specs.Net.{Net}
use Rattle.semantics.specs.ReadNet.{read_net}
use Rattle.semantics.specs.Plan.{plans_fault, with_plans, accept_front, accept_net}
use Rattle.semantics.specs.Answer.{refusing}
use Rattle.semantics.specs.Calls.{SplitEnd}
use Rattle.expression.specs.Skip.{forget, skipped}
use Rattle.net.specs.Skim.{changed, NetOutline, net_outline}
use Rattle.net.specs.declared.index.NetIndex.{NetIndex}
use Rattle.net.specs.Index.{net_read}
use Rattle.net.specs.Parted.{PartsKept}
use Rattle.accept.specs.declared.accepted.Extent.{Extent}

-- the net at the front of words: 1 to 3, then 4 where it ends before the word `least`, then 5
unfoldable pub accept_to : List ℕ → ℕ → Reading Net
accept_to ws least = then (read_net ws 0) (λ net next. cond (ltb next least) (refused words_left next) (with_plans (plans_fault net.transitions) net next))

-- where such a net ends, told from where it ends as it is read and the first fault of its plans
abbrev pub unless_unfit : Option ℕ → ℕ → Result ℕ Refusal
unless_unfit (Some q) next = Err (UnfitPlan q)
unless_unfit None next = Ok next

abbrev pub settle : ℕ → ℕ → Option ℕ → Result ℕ Refusal
settle least next f = cond (ltb next least) (Err (WordsLeft next)) (unless_unfit f next)

-- a net whose places begin and have the widths, and whose transitions begin, where three tables say
abbrev pub extent_read : Result Extent Refusal → List ℕ → List ℕ → List ℕ → Reading NetOutline
extent_read (Ok r) places widths transitions = read (record { places = zip (take r.places places) (take r.places widths); transitions = take r.transitions transitions }) r.end
extent_read (Err e) places widths transitions = refusing e

-- the positions of its places, their widths and the positions of its transitions are at the front of three tables, and where the parts of its transitions
-- from `first` on begin stands in a fourth
pub record IsExtent (ws : List ℕ) (least : ℕ) (places widths transitions : List ℕ) (first : ℕ) (table : List ℕ) (r : Result Extent Refusal) : Type 0 where
  pub same : extent_read r places widths transitions ≡ changed net_outline (accept_to ws least)
  pub kept : (net : Net) (whole : ℕ) → read_net ws 0 ≡ read net whole → PartsKept ws net first table

-- the index of an accepted net, with the parts of its transitions
pub record IsIndex (ws : List ℕ) (table : List ℕ) (r : Result NetIndex Refusal) : Type 0 where
  pub same : net_read r ≡ changed net_outline (accept_net ws)
  pub kept : (net : Net) (whole : ℕ) → read_net ws 0 ≡ read net whole → PartsKept ws net 0 table

abbrev pub InWords : List ℕ → Result ℕ Refusal → Type 0
InWords ws (Ok next) = next ≤ length ws
InWords ws (Err e) = Unit {0}

-- where the net at the front of words ends
pub record IsFront (ws : List ℕ) (r : Result ℕ Refusal) : Type 0 where
  pub same : skipped r ≡ forget (accept_front ws)
  pub inside : InWords ws r

-- the part handed back and the two numbers, as the definition of the call has them
abbrev pub split_into : List ℕ → ℕ → ℕ → SplitEnd
split_into rest n p = record { rest = rest; refusal = record { number = n; position = p } }
