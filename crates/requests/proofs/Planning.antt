-- Which orders a Mass Cancel Request can mean: what holds of each test that it can come to. Assumes nothing.
use Rattle.std.proofs.Common.{ℕ, Bool, true, false, cond, Some, None, Option, Ok, Err, Result}
use Rattle.std.specs.Prelude.{nat_lt, not}
use Rattle.matching.specs.Meaning.{serves}
use Rattle.orders.specs.declared.row.Row.{Row}
use Rattle.refusals.specs.declared.Turned.{Turned}
use Rattle.refusals.specs.declared.Turned.TheVariants.{NoPlace, UnknownInstrument}
use Rattle.requests.specs.Deciding.{turned_if, with_listing}
use Rattle.requests.specs.Instruments.{look_up}
use Rattle.requests.specs.MassCancels.{Aim, Plan, has_segment, planned_at}
use Rattle.requests.specs.MassCancels.Aim.{instrument, segment, all}
use Rattle.requests.specs.MassCancels.Plan.{unserved, within, everywhere}
use Rattle.requests.specs.Selection.{anywhere, meant, of_instrument, of_segment}
use Rattle.requests.specs.declared.listing.Listing.{Listing}
use Rattle.venue.specs.Books.{Books}

module _ (P : (Row → Bool) → Type 0) where
  -- P of the test that it comes to, if it comes to one
  abbrev pub Tests : Result Plan Turned → Type 0
  Tests (Err e) = Unit {0}
  Tests (Ok (unserved p)) = Unit {0}
  Tests (Ok (within p q)) = P q
  Tests (Ok (everywhere q)) = P q

  unless : (b : Bool) (e : Turned) (r : Result Plan Turned) → Tests r → Tests (turned_if b e r)
  unless true e r f = tt
  unless false e r f = f

  listed : (o : Option Listing) (f : Listing → Result Plan Turned) → ((l : Listing) → Tests (f l))
      → Tests (with_listing o f)
  listed None f k = tt
  listed (Some l) f k = k l

  pub tested : (a : Aim) (owner : ℕ → Bool) (b : Books) (spare : ℕ)
      → ((reach : Row → Bool) → P (meant owner reach false)) → Tests (planned_at a owner b spare)
  tested (instrument s k) owner b spare f =
      listed (look_up b.instruments s) _ (λ l. unless (nat_lt spare 1) NoPlace _ (served l (serves b.market k)))
    where
      served : (l : Listing) (x : Bool) → Tests (Ok (cond x
          (within l.instrument.partition (meant owner (of_instrument l.place k) false))
          (unserved l.instrument.partition)))
      served l true = f (of_instrument l.place k)
      served l false = tt
  tested (segment s) owner b spare f = unless (not (has_segment b.instruments s)) UnknownInstrument _
      (unless (nat_lt spare 3) NoPlace _ (f (of_segment b.instruments s)))
  tested all owner b spare f = unless (nat_lt spare 3) NoPlace _ (f anywhere)
