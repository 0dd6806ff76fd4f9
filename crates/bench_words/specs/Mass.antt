-- What the fields of a mass cancel hold, by the words that a person wrote. Assumes nothing.
use Rattle.std.specs.Prelude.{ℕ, Bool, List, [], ◌∷◌, Option}
use Rattle.std.specs.Option.{option_or}
use Rattle.texts.specs.Bytes.{said}
use Rattle.layout.specs.Layout.{Content}
use Rattle.layout.specs.Layout.Content.{words, figure, nothing}
use Rattle.bench_words.specs.declared.command.Scope.{Scope}
use Rattle.bench_words.specs.declared.misread.Misread.{Misread}
use Rattle.bench_words.specs.Fitting.{client_wrong}
use Rattle.bench_words.specs.Takes.{Taken, book_asked, mass_type, segment_asked, symbol_asked, take_said, take_wrong}
use Rattle.bench_words.specs.declared.mass.MassCancel.{MassCancel}

abbrev pub mass_asked : List ℕ → Bool → Taken → List Content
mass_asked client firm t =
    words client ∷ figure (mass_type firm t) ∷ symbol_asked t ∷ segment_asked t ∷ nothing ∷ book_asked t ∷ nothing ∷ []

abbrev pub mass_contents : MassCancel → List Content
mass_contents m = mass_asked (said m.client.id.bytes) m.firm (take_said m.take)

abbrev pub mass_wrong : List ℕ → Scope → Option Misread
mass_wrong client s = option_or (client_wrong client) (take_wrong s)
