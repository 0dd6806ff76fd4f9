-- What a request is decided to be: turned down, or acts. Assumes nothing.
use Rattle.std.specs.Prelude.{◌≡◌, ℕ, ◌-◌, Bool, List, [], ◌∷◌, Ok, Err, Some, None, Option, Result, if◌then◌else◌}
use Rattle.std.specs.Result.{result_err}
use Rattle.codes.specs.declared.session.Partition.{Partition}
use Rattle.matching.specs.Asked.{Asked}
use Rattle.orders.specs.Tables.{open_count}
use Rattle.reports.specs.declared.report.Entry.{Entry}
use Rattle.requests.specs.declared.listing.Listing.{Listing}
use Rattle.refusals.specs.declared.Turned.{Turned}
use Rattle.refusals.specs.declared.Turned.TheVariants.{UnknownInstrument}
use Rattle.texts.specs.declared.values.Time.{Time}
use Rattle.venue.specs.Acts.{Act, Note}
use Rattle.venue.specs.Books.{Books, Over}
use Rattle.venue.specs.Enacting.{Enacts}

-- a request that is refused in a report is not turned down: that report is all that is done
abbrev pub Decision : Type 0
Decision = Result (List Act) Turned

abbrev pub turned_if : {A : Type 0} → Bool → Turned → Result A Turned → Result A Turned
turned_if b e d = if b then Err e else d

-- of the instrument that is named, if it is there
abbrev pub with_listing : {A : Type 0} → Option Listing → (Listing → Result A Turned) → Result A Turned
with_listing None f = Err UnknownInstrument
with_listing (Some l) f = f l

-- one report that is of no order
abbrev pub told : Partition → Entry → Decision
told p e = Ok (Note p e ∷ [])

-- the free places beyond those of the open orders' ends
abbrev pub spare : {M : Type 0} → Over Books M → ℕ
spare x = x.free - open_count x.state.rows

-- what was decided is done: what is turned down changes nothing, and asks the matcher nothing
abbrev pub Does : {M : Type 0} → (M → Asked → M → Type 0) → Time → Decision → Over Books M
    → Result (Unit {0}) Turned → Over Books M → Type 0
Does did t (Err e) x r y = (r ≡ Err e) × (y ≡ x)
Does did t (Ok acts) x r y = (result_err r ≡ None) × Enacts did t acts x y
