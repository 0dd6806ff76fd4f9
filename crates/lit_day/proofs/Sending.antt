-- The acts of a line: each new quantity is one that can be ordered, and none fills an order. Assumes nothing.
use Rattle.std.specs.Prelude.{nat_lt, not}
use Rattle.std.specs.List.{AllByRecursion}
use Rattle.std.specs.Option.{option_map_or}
use Rattle.std.proofs.Common.{◌≡◌, ℕ, Bool, true, false, cond, List, [], ◌∷◌, Some, None, Option, Ok, Err, Result, refl, subst}
use Rattle.changes.specs.declared.change.Change.{Change}
use Rattle.changes.specs.declared.change.Change.TheVariants.{Accept, Replace, Withdraw, Fill, Undo}
use Rattle.gateway.specs.Doing.{Outcome}
use Rattle.gateway.specs.Hearing.{answered, outcome_of, rejection, requested_as}
use Rattle.gateway.specs.Lines.{ends_of}
use Rattle.gateway.specs.State.{State, session}
use Rattle.answers.specs.declared.answer.Reason.TheVariants as reason
use Rattle.gateway_runs.proofs.Fitting.{Fits, MayBy, ends_fit, outcome_fits}
use Rattle.lit_day.proofs.Acting.{MayAlter, MayDo}
use Rattle.order_messages.specs.declared.order_cancel_replace_request.OrderCancelReplaceRequest.{OrderCancelReplaceRequest}
use Rattle.orders.specs.Orders.{replace_fault}
use Rattle.orders.specs.Rows.{is_open, orderable}
use Rattle.orders.specs.declared.row.Ask.{Ask}
use Rattle.orders.specs.declared.row.Row.{Row}
use Rattle.refusals.specs.declared.Refusal.{Refusal}
use Rattle.refusals.specs.declared.Refusal.TheVariants.{NotOpen, BadTerms}
use Rattle.refusals.specs.declared.Turned.{Turned}
use Rattle.refusals.specs.declared.Turned.TheVariants.{NoPlace}
use Rattle.requests.specs.Deciding.{Decision, turned_if, with_listing}
use Rattle.requests.specs.Instruments.{look_up}
use Rattle.requests.specs.Replaces as replaces
use Rattle.requests.specs.declared.listing.Listing.{Listing}
use Rattle.requests.specs.declared.replace.Replacement.{Replacement}
use Rattle.sessions.specs.Sessions.{on}
use Rattle.sessions.specs.declared.session.Channel.{Channel}
use Rattle.terms.specs.Lifetime.{is_asked}
use Rattle.texts.specs.Says.{says}
use Rattle.texts.specs.declared.values.Time.{Time}
use Rattle.venue.specs.Acts.{Act, Open, Alter, Note, Take, Void}
use Rattle.wire.specs.declared.message.Message.{Message}
use Rattle.wire.specs.declared.message.Message.TheVariants as message

-- ---- a Replace asks for a quantity that can be ordered

can_order : (q : ℕ) (r : Row) → replace_fault q r ≡ None → orderable q ≡ true
can_order q r h = go (is_open r) (orderable q) h
  where
    go : (x y : Bool) → cond (not x) (Some NotOpen) (cond (not y) (Some BadTerms) None) ≡ None → y ≡ true
    go false y k = absurd (cc)
    go true false k = absurd (cc)
    go true true k = refl

module _ (m : OrderCancelReplaceRequest) where
  abbrev Asked : Ask → Type 0
  Asked a = orderable a.quantity ≡ true

  of_fault : (r : Row) (a : Ask) (x : Replacement) (f : Option Refusal) → replace_fault a.quantity r ≡ f
      → ◌≡◌ {A = Result Replacement Refusal} (option_map_or Err f (Ok (record { order = r; ask = a }))) (Ok x)
      → Asked x.ask
  of_fault r a x None e h = let is : a ≡ x.ask = cc in subst Asked is (can_order a.quantity r e)
  of_fault r a x (Some z) e h = absurd (cc)

  of_taken : (r : Row) (o : Option Ask) (x : Replacement) → replaces.taken r o ≡ Ok x → Asked x.ask
  of_taken r None x h = absurd (cc)
  of_taken r (Some a) x h = of_fault r a x (replace_fault a.quantity r) refl h

  of_timed : (r : Row) (c : Bool) (e : Refusal) (x : Replacement)
      → cond c (replaces.taken r (replaces.ask_of m r)) (Err e) ≡ Ok x → Asked x.ask
  of_timed r true e x h = of_taken r (replaces.ask_of m r) x h
  of_timed r false e x h = absurd (cc)

  of_row : (o : Result Row Refusal) (x : Replacement) → replaces.of_row m o ≡ Ok x → Asked x.ask
  of_row (Err e) x h = absurd (cc)
  of_row (Ok r) x h = of_timed r (is_asked m.time_in_force r.terms.lifetime) _ x h

-- ---- what is decided

abbrev Decided : Decision → Type 0
Decided (Err t) = Unit {0}
Decided (Ok acts) = AllByRecursion MayDo acts

unless : (b : Bool) (t : Turned) (d : Decision) → Decided d → Decided (turned_if b t d)
unless true t d f = tt
unless false t d f = f

listed : (o : Option Listing) (f : Listing → Decision) → ((l : Listing) → Decided (f l)) → Decided (with_listing o f)
listed None f k = tt
listed (Some l) f k = k l

requested : (m : Message) (s : State) (d : Decision) → Decided d → AllByRecursion MayDo (requested_as m s d).acts
requested m s (Err t) f = tt
requested m s (Ok acts) f = f

where_on : (m : Message) (s : State) (b : Bool) (o : Outcome) → AllByRecursion MayDo o.acts
    → AllByRecursion MayDo (cond b o (answered (rejection reason.NotLoggedOn m, s))).acts
where_on m s true o f = f
where_on m s false o f = tt

replace_sends : (m : OrderCancelReplaceRequest) (s : State) (line : ℕ) (t : Time) (spare : ℕ)
    → Decided (replaces.replace line m t s.venue spare)
replace_sends m s line t spare =
    listed (look_up s.venue.instruments (says m.symbol)) _
    (λ l. unless (nat_lt spare 1) NoPlace _ (replaced l (replaces.judged line l m s.venue) refl))
  where
    replaced : (l : Listing) (r : Result Replacement Refusal) → replaces.judged line l m s.venue ≡ r
        → Decided (replaces.replaced line m t l r)
    replaced l (Err e) h = (tt, tt)
    replaced l (Ok r) h = (of_row m _ r h, tt)

-- ---- each act that a message may do

fit_may : (may : Change → Type 0) (s : State) (line : ℕ) → ((c : Change) → may c → MayAlter c) → (a : Act)
    → Fits may s line a → MayDo a
fit_may may s line k (Open terms ask) f = f.1
fit_may may s line k (Alter n c) f = k c f.1
fit_may may s line k (Note p e) f = tt
fit_may may s line k (Take e) f = tt
fit_may may s line k (Void n) f = tt

each_may : (may : Change → Type 0) (s : State) (line : ℕ) → ((c : Change) → may c → MayAlter c) → (acts : List Act)
    → AllByRecursion (Fits may s line) acts → AllByRecursion MayDo acts
each_may may s line k [] f = tt
each_may may s line k (a ∷ acts) (x, f) = (fit_may may s line k a x, each_may may s line k acts f)

pub ends_may : (s : State) (line : ℕ) → AllByRecursion MayDo (ends_of line s)
ends_may s line = each_may MayAlter s line (λ c f. f) (ends_of line s) (ends_fit s line MayAlter (λ e i. tt))

-- a message that is no Replace
abbrev Plain : Message → Type 0
Plain m = (a : Ask) → MayBy m (Replace a) → ⊥

no_fill : (m : Message) → (c : Change) → Plain m → MayBy m c → MayAlter c
no_fill m (Accept s a) p f = tt
no_fill m (Replace a) p f = absurd (p a f)
no_fill m (Withdraw e c) p f = tt
no_fill m (Fill x) p f = absurd (none m f)
  where
    none : (m : Message) → MayBy m (Fill x) → ⊥
    none (message.NewOrder n) f = f
    none (message.OrderCancelReplaceRequest n) f = f
    none (message.OrderCancelRequest n) f = f
    none (message.OrderMassCancelRequest n) f = f
    none (message.Logout n) f = f
    none n f = f
no_fill m (Undo u) p f = tt

plainly : (s : State) (line : ℕ) (ch : Channel) (m : Message) (t : Time) (spare : ℕ) → Plain m
    → AllByRecursion MayDo (outcome_of ch line m t spare s).acts
plainly s line ch m t spare p =
    each_may (MayBy m) s line (λ c. no_fill m c p) (outcome_of ch line m t spare s).acts
    (outcome_fits s line ch m t spare).acts

pub outcome_may : (s : State) (line : ℕ) (ch : Channel) (m : Message) (t : Time) (spare : ℕ)
    → AllByRecursion MayDo (outcome_of ch line m t spare s).acts
outcome_may s line ch (message.OrderCancelReplaceRequest m) t spare =
    where_on (message.OrderCancelReplaceRequest m) s (on ch (session s line)) _
    (requested (message.OrderCancelReplaceRequest m) s _ (replace_sends m s line t spare))
outcome_may s line ch m t spare = plainly s line ch m t spare (λ a f. f)
