-- Finding an instrument by its symbol. Assumes nothing.
use Rattle.std.specs.Prelude.{ℕ, List, Bool, Some, None, Option, slice_get}
use Rattle.std.specs.List.{position}
use Rattle.std.specs.Option.{option_map}
use Rattle.std.specs.Str.{bytes_eq}
use Rattle.texts.specs.Bytes.{said}
use Rattle.requests.specs.declared.listing.Listing.{Listing}
use Rattle.configuration.specs.declared.instrument.Instrument.{Instrument}

abbrev pub is_called : List ℕ → Instrument → Bool
is_called symbol i = bytes_eq (said i.symbol.bytes) symbol

abbrev pub at_place : List Instrument → Option ℕ → Option Listing
at_place is None = None
at_place is (Some n) = option_map (λ i. record { place = n; instrument = i }) (slice_get is n)

-- the instrument of a symbol, with its place in the list
abbrev pub look_up : List Instrument → List ℕ → Option Listing
look_up is symbol = at_place is (position (is_called symbol) is)
