-- What each call makes of the orders. Assumes nothing.
use Rattle.std.specs.List.{AllByRecursion}
use Rattle.std.specs.Option.{option_map_or}
use Rattle.std.proofs.Common.{◌≡◌, ℕ, List, [], ◌∷◌, Some, None, Option, length, refl, sym, ap, subst}
use Rattle.gateway_runs.specs.declared.call.Done.{Done}
use Rattle.changes.specs.declared.change.Change.TheVariants.{Withdraw, Fill, Undo}
use Rattle.changes.specs.declared.change.Fill.{Fill as Filling}
use Rattle.configuration.specs.declared.instrument.Instrument.{Instrument}
use Rattle.gateway.specs.Doing.{acted}
use Rattle.gateway.specs.State.{State}
use Rattle.keyed.specs.Numbers.{under}
use Rattle.gateway_runs.proofs.Acted.{Among, Follows, call_among}
use Rattle.gateway_runs.proofs.Moving.{Moved, adds, changes, moved_on}
use Rattle.gateway_runs.specs.Conservation.{Moves}
use Rattle.gateway_runs.specs.Moves.{Move, expiry, of_act, of_acts, of_event, side_fills, side_undoes, undoes}
use Rattle.matching.specs.declared.event.Event.{Event}
use Rattle.matching.specs.declared.event.Event.TheVariants as event
use Rattle.orders.specs.declared.row.Ending.TheVariants.{Expired}
use Rattle.orders.specs.declared.row.Row.{Row}
use Rattle.orders.specs.declared.trade.Leg.{Leg}
use Rattle.orders.specs.declared.trade.Trade.{Trade}
use Rattle.texts.specs.declared.values.Time.{Time}
use Rattle.venue.specs.Acts.{Act, Open, Alter, Note, Take, Void, deal_of, enact, enact_all, ledger_of, told_by, voided}
use Rattle.venue.specs.Books.{Books}
use Rattle.venue.specs.Ledger.{Ledger, expired_as}
use Rattle.venue.specs.Trading.{passive_filled, side_filled, side_undone, passive_undone}

-- ---- an event of the matcher, and a trade cancelled

side_moves : (is : List Instrument) (t : Time) (f : Filling) (o : Option ℕ) (l : Ledger)
    → Moved l.rows (side_fills f o l) (side_filled is t f o l).rows
side_moves is t f None l = refl
side_moves is t f (Some n) l = changes is t n (Fill f) l (λ k. refl)

expiry_moves : (is : List Instrument) (t : Time) (n : ℕ) (o : Option Row) (l : Ledger)
    → Moved l.rows (expiry n o l.rows) (expired_as is t n o l).rows
expiry_moves is t n None l = refl
expiry_moves is t n (Some r) l = changes is t n (Withdraw Expired r.client) l (λ k. refl)

event_moves : (t : Time) (e : Event) (b : Books) → Moved b.rows (of_event t e b) (told_by t e b).rows
event_moves t event.Nothing b = refl
event_moves t (event.Expired n) b = expiry_moves b.instruments t n (under b.rows n) (ledger_of b)
event_moves t (event.Trade p a q x) b =
    let d = deal_of b q x in
    let l = passive_filled b.instruments t d p (ledger_of b) in
    moved_on b.rows l.rows _ _ _ (side_moves b.instruments t _ p (ledger_of b)) (side_moves b.instruments t _ a l)

undone_moves : (is : List Instrument) (t : Time) (q : ℕ) (o : Option Leg) (l : Ledger)
    → Moved l.rows (side_undoes is q o l) (side_undone is t q o l).rows
undone_moves is t q None l = refl
undone_moves is t q (Some s) l = changes is t s.order (Undo _) l (λ k. refl)

void_moves : (t : Time) (n : ℕ) (o : Option Trade) (b : Books)
    → Moved b.rows (option_map_or (λ tr. undoes b.instruments t tr (ledger_of b)) o []) (voided t n o b).rows
void_moves t n None b = refl
void_moves t n (Some tr) b =
    let l = passive_undone b.instruments t tr (ledger_of b) in
    moved_on b.rows l.rows _ _ _ (undone_moves b.instruments t tr.quantity tr.passive (ledger_of b))
    (undone_moves b.instruments t tr.quantity tr.aggressive l)

-- ---- acts

act_moves : (lines : ℕ) (t : Time) (a : Act) (b : Books) → Among lines a
    → Moved b.rows (of_act t a b) (enact t a b).rows
act_moves lines t (Open s a) b h = adds b.rows s a h.1
act_moves lines t (Alter n c) b h = changes b.instruments t n c (ledger_of b) h
act_moves lines t (Note p e) b h = refl
act_moves lines t (Take e) b h = event_moves t e b
act_moves lines t (Void n) b h = void_moves t n (under b.trades n) b

acts_move : (lines : ℕ) (t : Time) (acts : List Act) (b : Books) → AllByRecursion (Among lines) acts
    → Moved b.rows (of_acts t acts b) (enact_all t acts b).rows
acts_move lines t [] b f = refl
acts_move lines t (a ∷ acts) b (x, f) =
    moved_on b.rows (enact t a b).rows (of_act t a b) _ _ (act_moves lines t a b x)
    (acts_move lines t acts (enact t a b) f)

-- ---- any call

module _ (s : State) (ms : List Move) (d : Done) (w : State) where
  abbrev Does : Time → State → List Act → Type 0
  Does t u acts = (w ≡ acted t acts u) × (ms ≡ of_acts t acts u.venue)

  abbrev Stays : State → List Act → Type 0
  Stays u acts = (w ≡ u) × (ms ≡ [])

  does : (t : Time) → Follows (Does t) (Moved s.venue.rows ms w.venue.rows) s (Among (length s.lines))
  does t u acts e f (x, y) =
      subst (λ (z : State). Moved s.venue.rows ms z.venue.rows) (sym x)
      (subst (λ (l : List Move). Moved s.venue.rows l (enact_all t acts u.venue).rows) (sym y)
      (subst (λ (b : Books). Moved b.rows (of_acts t acts u.venue) (enact_all t acts u.venue).rows) e
      (acts_move (length s.lines) t acts u.venue f)))

  stays : (u : State) → u.venue ≡ s.venue → Stays u [] → Moved s.venue.rows ms w.venue.rows
  stays u e (x, y) =
      subst (λ (z : State). Moved s.venue.rows ms z.venue.rows) (sym x)
      (subst (λ (l : List Move). Moved s.venue.rows l u.venue.rows) (sym y) (ap (λ (b : Books). b.rows) e))

  pub call_moves : Moves s d ms w → Moved s.venue.rows ms w.venue.rows
  call_moves (n, h) = call_among Does Stays (Moved s.venue.rows ms w.venue.rows) s d does stays n h
