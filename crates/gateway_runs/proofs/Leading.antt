-- A relation of ledgers that holds of each act holds of every call. Assumes nothing.
use Rattle.std.specs.List.{AllByRecursion}
use Rattle.std.proofs.Common.{◌≡◌, ℕ, ◌<◌, List, [], ◌∷◌, Some, None, Option, length, refl, sym, subst}
use Rattle.changes.specs.declared.change.Change.{Change}
use Rattle.changes.specs.declared.change.Change.TheVariants.{Withdraw, Fill, Undo}
use Rattle.codes.specs.declared.report.Liquidity.TheVariants.{Added, Removed}
use Rattle.codes.specs.declared.session.Partition.{Partition}
use Rattle.configuration.specs.declared.instrument.Instrument.{Instrument}
use Rattle.gateway.specs.Doing.{acted}
use Rattle.gateway.specs.State.{State}
use Rattle.keyed.specs.Numbers.{under}
use Rattle.gateway_runs.proofs.Acted.{Among, Follows, call_among}
use Rattle.gateway_runs.proofs.Fitting.{Alters}
use Rattle.gateway_runs.specs.Runs.{Turns}
use Rattle.gateway_runs.specs.declared.call.Done.{Done}
use Rattle.matching.specs.declared.event.Event.{Event}
use Rattle.matching.specs.declared.event.Event.TheVariants as event
use Rattle.orders.specs.declared.row.Ask.{Ask}
use Rattle.orders.specs.declared.row.Ending.TheVariants.{Expired}
use Rattle.orders.specs.declared.row.Row.{Row}
use Rattle.orders.specs.declared.row.Terms.{Terms}
use Rattle.orders.specs.declared.trade.Leg.{Leg}
use Rattle.orders.specs.declared.trade.Trade.{Trade}
use Rattle.partitions.specs.Series.{grown}
use Rattle.reports.specs.declared.report.Entry.{Entry}
use Rattle.texts.specs.declared.values.Time.{Time}
use Rattle.venue.specs.Acts.{Act, Open, Alter, Note, Take, Void, deal_of, enact, enact_all, ledger_of, told_by, voided}
use Rattle.venue.specs.Books.{Books}
use Rattle.venue.specs.Ledger.{Ledger, ledger, changed, entered, expired_as}
use Rattle.venue.specs.Trading.{passive_filled, both_filled, filling, side_undone, passive_undone}
use Rattle.venue.specs.declared.trading.Deal.{Deal}

-- the steps that acts are made of: a change of an order, and of one of so many lines a report that is of none, and a new
-- order
pub record Leads (R : Ledger → Ledger → Type 0) (lines : ℕ) : Type 0 where
  pub same : (l : Ledger) → R l l
  pub then : (a b c : Ledger) → R a b → R b c → R a c
  pub change : (is : List Instrument) (t : Time) (n : ℕ) (c : Change) (l : Ledger) → Alters c → R l (changed is t n c l)
  pub note : (p : Partition) (e : Entry) (l : Ledger) → e.owner < lines → R l (ledger l.rows (grown l.kept p e))
  pub add : (is : List Instrument) (t : Time) (s : Terms) (a : Ask) (l : Ledger) → s.owner < lines
      → R l (entered is t s a l)

module _ (R : Ledger → Ledger → Type 0) (lines : ℕ) (leads : Leads R lines) where
  filled_leads : (is : List Instrument) (t : Time) (d : Deal) (p a : Option ℕ) (l : Ledger)
      → R l (both_filled is t d p a l)
  filled_leads is t d None None l = leads.same l
  filled_leads is t d (Some n) None l = leads.change is t n (Fill (filling d Added)) l (λ k. refl)
  filled_leads is t d None (Some m) l = leads.change is t m (Fill (filling d Removed)) l (λ k. refl)
  filled_leads is t d (Some n) (Some m) l =
      let x = passive_filled is t d (Some n) l in
      leads.then l x _ (leads.change is t n (Fill (filling d Added)) l (λ k. refl))
      (leads.change is t m (Fill (filling d Removed)) x (λ k. refl))

  ended_leads : (is : List Instrument) (t : Time) (n : ℕ) (o : Option Row) (l : Ledger) → R l (expired_as is t n o l)
  ended_leads is t n None l = leads.same l
  ended_leads is t n (Some r) l = leads.change is t n (Withdraw Expired r.client) l (λ k. refl)

  undone_leads : (is : List Instrument) (t : Time) (q : ℕ) (o : Option Leg) (l : Ledger)
      → R l (side_undone is t q o l)
  undone_leads is t q None l = leads.same l
  undone_leads is t q (Some s) l = leads.change is t s.order (Undo _) l (λ k. refl)

  -- ---- an act

  event_leads : (t : Time) (e : Event) (b : Books) → R (ledger_of b) (told_by t e b)
  event_leads t event.Nothing b = leads.same (ledger_of b)
  event_leads t (event.Expired n) b = ended_leads b.instruments t n (under b.rows n) (ledger_of b)
  event_leads t (event.Trade p a q x) b = filled_leads b.instruments t (deal_of b q x) p a (ledger_of b)

  void_leads : (t : Time) (n : ℕ) (o : Option Trade) (b : Books) → R (ledger_of b) (ledger_of (voided t n o b))
  void_leads t n None b = leads.same (ledger_of b)
  void_leads t n (Some tr) b =
      let x = passive_undone b.instruments t tr (ledger_of b) in
      leads.then (ledger_of b) x _ (undone_leads b.instruments t tr.quantity tr.passive (ledger_of b))
      (undone_leads b.instruments t tr.quantity tr.aggressive x)

  act_leads : (t : Time) (a : Act) (b : Books) → Among lines a → R (ledger_of b) (ledger_of (enact t a b))
  act_leads t (Open s a) b h = leads.add b.instruments t s a (ledger_of b) h.0
  act_leads t (Alter n c) b h = leads.change b.instruments t n c (ledger_of b) h
  act_leads t (Note p e) b h = leads.note p e (ledger_of b) h
  act_leads t (Take e) b h = event_leads t e b
  act_leads t (Void n) b h = void_leads t n (under b.trades n) b

  -- ---- and acts in turn

  acts_lead : (t : Time) (acts : List Act) (b : Books) → AllByRecursion (Among lines) acts
      → R (ledger_of b) (ledger_of (enact_all t acts b))
  acts_lead t [] b f = leads.same (ledger_of b)
  acts_lead t (a ∷ acts) b (x, f) =
      leads.then (ledger_of b) (ledger_of (enact t a b)) _ (act_leads t a b x) (acts_lead t acts (enact t a b) f)

module _ (R : Ledger → Ledger → Type 0) (s : State) (leads : Leads R (length s.lines)) where
  -- from the books b to the venue of w
  abbrev pub To : Books → State → Type 0
  To b w = R (ledger_of b) (ledger_of w.venue)

  pub call_leads : (d : Done) (w : State) → Turns s d w → To s.venue w
  call_leads d w (n, h) = call_among (λ t u acts. w ≡ acted t acts u) (λ u acts. w ≡ u) (To s.venue w) s d does stays n h
    where
      does : (t : Time) → Follows (λ u acts. w ≡ acted t acts u) (To s.venue w) s (Among (length s.lines))
      does t u acts e f k =
          subst (λ (b : Books). To b w) e
          (subst (λ (z : State). To u.venue z) (sym k) (acts_lead R (length s.lines) leads t acts u.venue f))

      stays : (u : State) → u.venue ≡ s.venue → w ≡ u → To s.venue w
      stays u e k =
          subst (λ (b : Books). To b w) e (subst (λ (z : State). To u.venue z) (sym k) (leads.same (ledger_of u.venue)))
