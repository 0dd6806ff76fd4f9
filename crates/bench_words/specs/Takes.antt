-- What a mass cancel takes, by the words that a person wrote. Assumes nothing.
use Rattle.std.specs.Prelude.{ℕ, Bool, true, false, List, [], ◌∷◌, None, Option}
use Rattle.codes.specs.Order.{book_code}
use Rattle.codes.specs.declared.order.Book.{Book}
use Rattle.texts.specs.Bytes.{said}
use Rattle.layout.specs.Layout.{Content}
use Rattle.layout.specs.Layout.Content.{words, figure, nothing}
use Rattle.bench_words.specs.declared.command.Scope.{Scope}
use Rattle.bench_words.specs.declared.command.Scope.TheVariants as scope
use Rattle.bench_words.specs.declared.misread.Misread.{Misread}
use Rattle.bench_words.specs.Fitting.{segment_wrong, symbol_wrong}
use Rattle.bench_words.specs.declared.mass.Take.{Take}
use Rattle.bench_words.specs.declared.mass.Take.TheVariants as take

-- all orders, or those of an instrument in a book, or of a segment
pub data Taken : Type 0 where
  all : Taken
  instrument : List ℕ → Book → Taken
  segment : List ℕ → Taken

abbrev pub scope_said : Scope → Taken
scope_said scope.All = all
scope_said (scope.Instrument w b) = instrument w.now b
scope_said (scope.Segment w) = segment w.now

abbrev pub take_said : Take → Taken
take_said take.All = all
take_said (take.Instrument t b) = instrument (said t.bytes) b
take_said (take.Segment t) = segment (said t.bytes)

abbrev pub take_wrong : Scope → Option Misread
take_wrong scope.All = None
take_wrong (scope.Instrument w b) = symbol_wrong w.now
take_wrong (scope.Segment w) = segment_wrong w.now

-- the type of a mass cancel: of the CompID or of its firm
abbrev pub mass_type : Bool → Taken → ℕ
mass_type false all = 7
mass_type true all = 8
mass_type false (instrument w b) = 9
mass_type true (instrument w b) = 3
mass_type false (segment w) = 15
mass_type true (segment w) = 4

abbrev pub symbol_asked : Taken → Content
symbol_asked all = nothing
symbol_asked (instrument w b) = words w
symbol_asked (segment w) = nothing

abbrev pub segment_asked : Taken → Content
segment_asked all = nothing
segment_asked (instrument w b) = nothing
segment_asked (segment w) = words w

-- the book, of a mass cancel by instrument
abbrev pub book_asked : Taken → Content
book_asked all = nothing
book_asked (instrument w b) = figure (book_code b)
book_asked (segment w) = nothing

abbrev pub scope_asked : Bool → Taken → List Content
scope_asked firm t = figure (mass_type firm t) ∷ symbol_asked t ∷ segment_asked t ∷ book_asked t ∷ []
