-- What a call on a line decides to do: which acts, of whose orders and reports. Assumes nothing.
use Rattle.std.specs.Prelude.{find, reverse, filter, map, slice_get, nat_lt, not}
use Rattle.std.specs.List.{AllByRecursion}
use Rattle.std.specs.Option.{option_map_or, ok_or}
use Rattle.std.specs.Ordering.{int_eq}
use Rattle.std.proofs.lemmas.Bool.{and_parts, eqb-true}
use Rattle.std.proofs.Common.{◌≡◌, ℕ, zero, suc, ℤ, pos, negsuc, Bool, true, false, cond, eqb, List, [], ◌∷◌, Some, None, Option, Ok, Err, Result, refl, sym, ap, ◌∙◌, subst}
use Rattle.changes.specs.Changes.{after}
use Rattle.changes.specs.declared.change.Change.{Change}
use Rattle.changes.specs.declared.change.Change.TheVariants.{Accept, Replace, Withdraw}
use Rattle.codes.specs.declared.order.Book.{Book}
use Rattle.codes.specs.declared.session.AckResponse.{AckResponse}
use Rattle.configuration.specs.declared.participant.Participant.{Participant}
use Rattle.gateway.specs.Doing.{Outcome}
use Rattle.gateway.specs.Hearing.{answered, outcome_of, requested_as, missed_by, missed_on, logout, firm, firm_of, rejection}
use Rattle.gateway.specs.Lines.{admitted, admits, ends_of, ends_orders, ends_with}
use Rattle.gateway.specs.State.{State, session}
use Rattle.answers.specs.declared.answer.Reason.TheVariants as reason
use Rattle.keyed.proofs.Under.{none-some}
use Rattle.keyed.specs.Numbers.{under}
use Rattle.gateway_runs.specs.Laws.{FirmOf}
use Rattle.matching.specs.Meaning.{serves}
use Rattle.session_messages.specs.declared.missed_message_request.MissedMessageRequest.{MissedMessageRequest}
use Rattle.order_messages.specs.declared.new_order.NewOrder.{NewOrder}
use Rattle.order_messages.specs.declared.order_cancel_request.OrderCancelRequest.{OrderCancelRequest}
use Rattle.order_messages.specs.declared.order_cancel_replace_request.OrderCancelReplaceRequest.{OrderCancelReplaceRequest}
use Rattle.order_messages.specs.declared.order_mass_cancel_request.OrderMassCancelRequest.{OrderMassCancelRequest}
use Rattle.orders.proofs.Kept.{kept_at}
use Rattle.orders.specs.Orders.{replace_fault}
use Rattle.orders.specs.Rows.{is_open, orderable}
use Rattle.orders.specs.Tables.{goes_by, owned}
use Rattle.orders.specs.declared.row.Ask.{Ask}
use Rattle.orders.specs.declared.row.Ending.{Ending}
use Rattle.orders.specs.declared.row.Row.{Row}
use Rattle.requests.proofs.Found.{named_there}
use Rattle.requests.proofs.Planning.{Tests, tested}
use Rattle.requests.specs.Cancels as cancels
use Rattle.requests.specs.Checks.{shares, shown}
use Rattle.requests.specs.Deciding.{Decision, turned_if, with_listing}
use Rattle.requests.specs.Instruments.{look_up}
use Rattle.requests.specs.MassCancels as mass
use Rattle.requests.specs.MassCancels.{Plan}
use Rattle.requests.specs.MassCancels.Plan.{unserved, within as ends_in, everywhere as ends_in_all}
use Rattle.requests.specs.Naming.{found, agrees, if_agreeing, if_open, named}
use Rattle.requests.specs.NewOrders as new
use Rattle.requests.specs.Replaces as replaces
use Rattle.requests.specs.Selection.{anywhere, ended_for, meant, of_firm, of_instrument, of_line, of_segment, withdrawals}
use Rattle.requests.specs.declared.listing.Listing.{Listing}
use Rattle.requests.specs.declared.naming.Naming.{Naming}
use Rattle.requests.specs.declared.new_order.Placement.{Placement}
use Rattle.requests.specs.declared.replace.Replacement.{Replacement}
use Rattle.requests.specs.declared.selection.Cause.{Cause}
use Rattle.requests.specs.declared.selection.Cause.TheVariants.{Request, LineLost}
use Rattle.refusals.specs.declared.LogonRefusal.{LogonRefusal}
use Rattle.refusals.specs.declared.Refusal.{Refusal}
use Rattle.refusals.specs.declared.Refusal.TheVariants.{BadTerms, BookNotServed, NoSuchOrder, NotOpen}
use Rattle.refusals.specs.declared.RequestRefusal.{RequestRefusal}
use Rattle.refusals.specs.declared.Turned.{Turned}
use Rattle.refusals.specs.declared.Turned.TheVariants.{NoPlace, UnknownInstrument}
use Rattle.sessions.specs.Sessions.{on}
use Rattle.sessions.specs.declared.session.Channel.{Channel}
use Rattle.sessions.specs.declared.session.Channel.TheVariants.{RealTime, Recovery}
use Rattle.sessions.specs.declared.session.Session.{Session}
use Rattle.terms.specs.Lifetime.{is_asked, lifetime_of}
use Rattle.terms.specs.declared.lifetime.Lifetime.{Lifetime}
use Rattle.texts.specs.Bytes.{said}
use Rattle.texts.specs.Says.{says, kept}
use Rattle.texts.specs.declared.fixed.FixedText.{FixedText}
use Rattle.texts.specs.declared.identifiers.OrderId.{OrderId}
use Rattle.texts.specs.declared.values.Time.{Time}
use Rattle.venue.specs.Acts.{Act, Open, Alter, Note, Take, Void}
use Rattle.venue.specs.Books.{Books, Sound}
use Rattle.wire.specs.declared.message.Message.{Message}
use Rattle.wire.specs.declared.message.Message.TheVariants as message

-- the changes that a message may make
abbrev pub MayBy : Message → Change → Type 0
MayBy (message.NewOrder m) (Accept t a) = Unit {0}
MayBy (message.OrderCancelReplaceRequest m) (Replace a) = Unit {0}
MayBy (message.OrderCancelRequest m) (Withdraw e c) = Unit {0}
MayBy (message.OrderMassCancelRequest m) (Withdraw e c) = Unit {0}
MayBy (message.Logout m) (Withdraw e c) = Unit {0}
MayBy m c = ⊥

-- a change that makes no order of nothing
abbrev pub Alters : Change → Type 0
Alters c = (n : ℕ) → after n c None ≡ None

-- an act of a call on a line, where `may` says which changes may be made: an order or a report of the line's own, or a
-- change of an order of its firm
abbrev pub Fits : (Change → Type 0) → State → ℕ → Act → Type 0
Fits may s line (Open terms ask) = (terms.owner ≡ line) × (orderable ask.quantity ≡ true) × may (Accept terms ask)
Fits may s line (Alter n c) = Alters c × may c × (Sound s.venue → FirmOf s line (under s.venue.rows n))
Fits may s line (Note p e) = e.owner ≡ line
Fits may s line (Take e) = ⊥
Fits may s line (Void n) = ⊥

-- ---- shares that can be ordered

if_orderable : (k n : ℕ) (b : Bool) → orderable k ≡ b → cond b (Some k) None ≡ Some n → orderable n ≡ true
if_orderable k n true o h = let is : k ≡ n = cc in ap orderable (sym is) ∙ o
if_orderable k n false o h = none-some n h

shares_are : (q : ℤ) (n : ℕ) → shares q ≡ Some n → orderable n ≡ true
shares_are (pos k) n h = if_orderable k n (orderable k) refl h
shares_are (negsuc k) n h = none-some n h

if_shown : (q : ℤ) (n : ℕ) (b : Bool) → cond b (shares q) None ≡ Some n → orderable n ≡ true
if_shown q n true h = shares_are q n h
if_shown q n false h = none-some n h

-- what is asked for
abbrev Asks : Placement → Type 0
Asks p = orderable p.ask.quantity ≡ true

new_asks : (m : NewOrder) (x : Option Lifetime) (o : Option ℕ) (p : Placement) → shown m.quantity m.display_quantity
    ≡ o → new.placed m x o ≡ Some p → Asks p
new_asks m None o p e h = absurd (cc)
new_asks m (Some l) None p e h = absurd (cc)
new_asks m (Some l) (Some n) p e h =
    let one : Placement = record { lifetime = l; ask = new.asks m n } in
    let same : one ≡ p = cc in
    subst Asks same (if_shown m.quantity n (int_eq m.display_quantity m.quantity) e)

new_if : (m : NewOrder) (b : Bool) (p : Placement) → cond b
    (new.placed m (lifetime_of m.time_in_force) (shown m.quantity m.display_quantity)) None ≡ Some p → Asks p
new_if m true p h = new_asks m (lifetime_of m.time_in_force) (shown m.quantity m.display_quantity) p refl h
new_if m false p h = absurd (cc)

new_or_bad : (m : NewOrder) (o : Option Placement) (p : Placement) → new.placement_of m ≡ o → ok_or o BadTerms ≡ Ok p
    → Asks p
new_or_bad m None p e h = absurd (cc)
new_or_bad m (Some b) p e h = let is : b ≡ p = cc in subst Asks is (new_if m _ b e)

unrefused : {A : Type 0} (o : Option Refusal) (p q : A)
    → ◌≡◌ {A = Result A Refusal} (option_map_or Err o (Ok p)) (Ok q) → ◌≡◌ {A = Result A Refusal} (Ok p) (Ok q)
unrefused None p q h = h
unrefused (Some e) p q h = absurd (cc)

with_room_asks : (m : NewOrder) (b : Books) (r : Result Placement Refusal) (p : Placement)
    → ok_or (new.placement_of m) BadTerms ≡ r → new.with_room b r ≡ Ok p → Asks p
with_room_asks m b (Err e) p k h = absurd (cc)
with_room_asks m b (Ok q) p k h = new_or_bad m (new.placement_of m) p refl (k ∙ unrefused (new.room_fault b) q p h)

new_judged : (m : NewOrder) (b : Books) (served : Bool) (p : Placement)
    → cond served (new.with_room b (ok_or (new.placement_of m) BadTerms)) (Err BookNotServed) ≡ Ok p → Asks p
new_judged m b true p h = with_room_asks m b (ok_or (new.placement_of m) BadTerms) p refl h
new_judged m b false p h = absurd (cc)

-- ---- a Replace's order

taken_of : (b : Row) (o : Option Ask) (r : Replacement) → replaces.taken b o ≡ Ok r → b ≡ r.order
taken_of b None r h = absurd (cc)
taken_of b (Some a) r h =
    let made : Replacement = record { order = b; ask = a } in
    let same = unrefused (replace_fault a.quantity b) made r h in cc

timed : (m : OrderCancelReplaceRequest) (b : Row) (c : Bool) (e : Refusal) (r : Replacement)
    → cond c (replaces.taken b (replaces.ask_of m b)) (Err e) ≡ Ok r → b ≡ r.order
timed m b true e r h = taken_of b (replaces.ask_of m b) r h
timed m b false e r h = absurd (cc)

of_row : (m : OrderCancelReplaceRequest) (x : Result Row Refusal) (r : Replacement) → replaces.of_row m x ≡ Ok r
    → x ≡ Ok r.order
of_row m (Err e) r h = absurd (cc)
of_row m (Ok b) r h = ap Ok (timed m b (is_asked m.time_in_force b.terms.lifetime) _ r h)

-- ---- the order that is named is the line's

here_true : (p : Row → Bool) (x r : Row) (rest : Option Row) (b : Bool) → p x ≡ b → (rest ≡ Some r → p r ≡ true)
    → cond b (Some x) rest ≡ Some r → p r ≡ true
here_true p x r rest true k later h = let is : x ≡ r = cc in ap p (sym is) ∙ k
here_true p x r rest false k later h = later h

find_true : (p : Row → Bool) (xs : List Row) (r : Row) → find p xs ≡ Some r → p r ≡ true
find_true p [] r e = none-some r e
find_true p (x ∷ xs) r e = here_true p x r (find p xs) (p x) refl (find_true p xs r) e

if_owned : (line : ℕ) (o : Option Row) (r : Row) → owned line o ≡ Some r → r.terms.owner ≡ line
if_owned line None r e = none-some r e
if_owned line (Some x) r e = mine (eqb x.terms.owner line) refl e
  where
    mine : (b : Bool) → eqb x.terms.owner line ≡ b → cond b (Some x) None ≡ Some r → r.terms.owner ≡ line
    mine true k h = let is : x ≡ r = cc in ap (λ (y : Row). y.terms.owner) (sym is) ∙ eqb-true x.terms.owner line k
    mine false k h = none-some r h

found_own : (line : ℕ) (i : Option OrderId) (original : FixedText 20) (rows : List Row) (r : Row)
    → found line i original rows ≡ Some r → r.terms.owner ≡ line
found_own line (Some i) original rows r e = if_owned line (under rows i.number) r e
found_own line None original rows r e =
    eqb-true r.terms.owner line (and_parts (eqb r.terms.owner line) _
    (find_true (goes_by line (said original.bytes)) (reverse rows) r e)).0

opened : (x : Result Row Refusal) (r : Row) → if_open x ≡ Ok r → x ≡ Ok r
opened (Err e) r h = absurd (cc)
opened (Ok y) r h = here (is_open y) h
  where
    here : (b : Bool) → cond b (Ok y) (Err NotOpen) ≡ Ok r → ◌≡◌ {A = Result Row Refusal} (Ok y) (Ok r)
    here true k = k
    here false k = absurd (cc)

agreed : (n : Naming) (o : Option Row) (r : Row) → if_agreeing n o ≡ Ok r → o ≡ Some r
agreed n None r h = absurd (cc)
agreed n (Some y) r h = here (agrees n y) h
  where
    here : (b : Bool) → cond b (Ok y) (Err NoSuchOrder) ≡ Ok r → Some y ≡ Some r
    here true k = let is : y ≡ r = cc in ap Some is
    here false k = absurd (cc)

named_found : (n : Naming) (rows : List Row) (r : Row) → named n rows ≡ Ok r → found n.line n.order n.original rows
    ≡ Some r
named_found n rows r h = agreed n _ r (opened (if_agreeing n (found n.line n.order n.original rows)) r h)

served_named : (b : Bool) (n : Naming) (v : Books) (r : Row) → cond b (named n v.rows) (Err BookNotServed) ≡ Ok r
    → named n v.rows ≡ Ok r
served_named true n v r h = h
served_named false n v r h = absurd (cc)

module _ (s : State) (line : ℕ) where
  own_row : (n : ℕ) (r : Row) → under s.venue.rows n ≡ Some r → r.terms.owner ≡ line
      → FirmOf s line (under s.venue.rows n)
  own_row n r e o = subst (FirmOf s line) (sym e) (ap (firm s) o)

  own_served : (bk : Book) (n : Naming) (r : Row) → n.line ≡ line → cancels.served bk n s.venue ≡ Ok r → Sound s.venue
      → FirmOf s line (under s.venue.rows r.number)
  own_served bk n r is h sound =
      let f = named_found n s.venue.rows r (served_named (serves s.venue.market bk) n s.venue r h) in
      own_row r.number r (named_there s.venue n.line n.order n.original r sound (sym f))
      (found_own n.line n.order n.original s.venue.rows r f ∙ is)

  -- ---- what is decided

  module _ (may : Change → Type 0) where
    abbrev Fit : Act → Type 0
    Fit = Fits may s line

    abbrev Decided : Decision → Type 0
    Decided (Err t) = Unit {0}
    Decided (Ok acts) = AllByRecursion Fit acts

    unless : (b : Bool) (t : Turned) (d : Decision) → Decided d → Decided (turned_if b t d)
    unless true t d f = tt
    unless false t d f = f

    listed : (o : Option Listing) (f : Listing → Decision) → ((l : Listing) → Decided (f l))
        → Decided (with_listing o f)
    listed None f k = tt
    listed (Some l) f k = k l

    -- ---- withdrawals

    -- who is picked is of the firm
    abbrev Mine : (Row → Bool) → Type 0
    Mine q = (r : Row) → q r ≡ true → firm s r.terms.owner ≡ firm s line

    end_fits : (c : Cause) (r : Row) → ((e : Ending) (i : FixedText 20) → may (Withdraw e i))
        → (Sound s.venue → FirmOf s line (under s.venue.rows r.number)) → Fit (ended_for c r)
    end_fits (Request i) r ends own = (λ n. refl, ends _ i, own)
    end_fits LineLost r ends own = (λ n. refl, ends _ r.client, own)

    swept : (q : Row → Bool) (c : Cause) (rows : List Row) → Mine q
        → ((e : Ending) (i : FixedText 20) → may (Withdraw e i))
        → (Sound s.venue → (i : ℕ) (r : Row) → slice_get rows i ≡ Some r → under s.venue.rows r.number ≡ Some r)
        → AllByRecursion Fit (withdrawals q c rows)
    swept q c [] mine ends there = tt
    swept q c (r ∷ rs) mine ends there = here (q r) refl (swept q c rs mine ends (λ sound i. there sound (suc i)))
      where
        here : (b : Bool) → q r ≡ b → AllByRecursion Fit (withdrawals q c rs)
            → AllByRecursion Fit (map (ended_for c) (cond b (r ∷ filter q rs) (filter q rs)))
        here true e rest =
            (end_fits c r ends (λ sound. subst (FirmOf s line) (sym (there sound zero r refl)) (mine r e)), rest)
        here false e rest = rest

    all_swept : (q : Row → Bool) (c : Cause) → Mine q → ((e : Ending) (i : FixedText 20) → may (Withdraw e i))
        → AllByRecursion Fit (withdrawals q c s.venue.rows)
    all_swept q c mine ends = swept q c s.venue.rows mine ends
        (λ sound i r e. ap (under s.venue.rows) (kept_at s.venue.rows (suc i) r sound.recorded.numbered e).0 ∙ e)

    -- such owners are of the firm
    abbrev Owners : (ℕ → Bool) → Type 0
    Owners owner = (o : ℕ) → owner o ≡ true → firm s o ≡ firm s line

    lines_own : Owners (of_line line)
    lines_own o h = ap (firm s) (eqb-true o line h)

    firms_own : Owners (of_firm s.participants (firm s line))
    firms_own o h = same (slice_get s.participants o) h
      where
        same : (p : Option Participant) → option_map_or (λ q. eqb q.firm (firm s line)) p false ≡ true
            → firm_of p ≡ firm s line
        same None k = absurd (let z : false ≡ true = k in cc)
        same (Some p) k = eqb-true p.firm (firm s line) k

    meant_own : (owner : ℕ → Bool) (within : Row → Bool) (marked : Bool) → Owners owner
        → Mine (meant owner within marked)
    meant_own owner within marked f r h = f r.terms.owner
        (and_parts (owner r.terms.owner) _ (and_parts (nat_lt 0 r.leaves) _ h).1).0

  -- ---- each request

  new_fits : (m : NewOrder) (t : Time) (spare : ℕ)
      → Decided (MayBy (message.NewOrder m)) (new.new_order line m t s.venue spare)
  new_fits m t spare =
      listed (MayBy (message.NewOrder m)) (look_up s.venue.instruments (says m.symbol)) _
      (λ l. unless (MayBy (message.NewOrder m)) (nat_lt spare 2) NoPlace _ (ordered l (new.judged m s.venue) refl))
    where
      ordered : (l : Listing) (r : Result Placement Refusal) → new.judged m s.venue ≡ r
          → Decided (MayBy (message.NewOrder m)) (new.ordered line m t l r)
      ordered l (Err e) h = (refl, tt)
      ordered l (Ok p) h = ((refl, new_judged m s.venue _ p h, tt), tt)

  cancel_fits : (m : OrderCancelRequest) (t : Time) (spare : ℕ)
      → Decided (MayBy (message.OrderCancelRequest m)) (cancels.cancel line m t s.venue spare)
  cancel_fits m t spare =
      listed (MayBy (message.OrderCancelRequest m)) (look_up s.venue.instruments (says m.symbol)) _
      (λ l. cancelled l (cancels.served m.book (cancels.named_by line l m) s.venue) refl)
    where
      cancelled : (l : Listing) (r : Result Row Refusal)
          → cancels.served m.book (cancels.named_by line l m) s.venue ≡ r
          → Decided (MayBy (message.OrderCancelRequest m)) (cancels.cancelled line m t spare l r)
      cancelled l (Err e) h = unless (MayBy (message.OrderCancelRequest m)) (nat_lt spare 1) NoPlace _ (refl, tt)
      cancelled l (Ok r) h = ((λ n. refl, tt, own_served m.book (cancels.named_by line l m) r refl h), tt)

  replace_fits : (m : OrderCancelReplaceRequest) (t : Time) (spare : ℕ)
      → Decided (MayBy (message.OrderCancelReplaceRequest m)) (replaces.replace line m t s.venue spare)
  replace_fits m t spare =
      listed (MayBy (message.OrderCancelReplaceRequest m)) (look_up s.venue.instruments (says m.symbol)) _
      (λ l. unless (MayBy (message.OrderCancelReplaceRequest m)) (nat_lt spare 1) NoPlace _
      (replaced l (replaces.judged line l m s.venue) refl))
    where
      replaced : (l : Listing) (r : Result Replacement Refusal) → replaces.judged line l m s.venue ≡ r
          → Decided (MayBy (message.OrderCancelReplaceRequest m)) (replaces.replaced line m t l r)
      replaced l (Err e) h = (refl, tt)
      replaced l (Ok r) h =
          ((λ n. refl, tt, own_served _ (replaces.named_by line l m) r.order refl (of_row m _ r h)), tt)

  module _ (m : OrderMassCancelRequest) (t : Time) (spare : ℕ) where
    abbrev Massed : Decision → Type 0
    Massed = Decided (MayBy (message.OrderMassCancelRequest m))

    owner_own : (firms : Bool)
        → Owners (MayBy (message.OrderMassCancelRequest m)) (mass.owner_of firms s.participants (firm s line) line)
    owner_own true = firms_own (MayBy (message.OrderMassCancelRequest m))
    owner_own false = lines_own (MayBy (message.OrderMassCancelRequest m))

    swept_fits : (q : Row → Bool) → Mine (MayBy (message.OrderMassCancelRequest m)) q
        → AllByRecursion (Fit (MayBy (message.OrderMassCancelRequest m))) (mass.swept q m s.venue)
    swept_fits q f = all_swept (MayBy (message.OrderMassCancelRequest m)) q (Request (kept m.client_order_id.text)) f
        (λ e i. tt)

    done_fits : (r : Result Plan Turned) → Tests (Mine (MayBy (message.OrderMassCancelRequest m))) r → Massed (mass.done_as line m t s.venue r)
    done_fits (Err e) f = tt
    done_fits (Ok (unserved p)) f = (refl, tt)
    done_fits (Ok (ends_in p q)) f = (refl, swept_fits q f)
    done_fits (Ok (ends_in_all q)) f = (refl, (refl, (refl, swept_fits q f)))

    mass_fits : Massed (mass.mass_cancel s.participants (firm s line) line m t s.venue spare)
    mass_fits =
        let may = MayBy (message.OrderMassCancelRequest m) in
        let aim = mass.aim_of m.scope in
        let owner = mass.owner_of aim.0 s.participants (firm s line) line in
        done_fits _ (tested (Mine may) aim.1 owner s.venue spare
        (λ reach. meant_own may owner reach false (owner_own aim.0)))

  -- ---- each message

  -- the venue is as it was, and the acts fit
  pub record Fitting (may : Change → Type 0) (o : Outcome) : Type 0 where
    pub same : o.changed.venue ≡ s.venue
    pub acts : AllByRecursion (Fits may s line) o.acts

  pub ends_fit : (may : Change → Type 0) → ((e : Ending) (i : FixedText 20) → may (Withdraw e i))
      → AllByRecursion (Fits may s line) (ends_of line s)
  ends_fit may ends = marked (ends_orders (slice_get s.participants line))
    where
      marked : (b : Bool)
          → AllByRecursion (Fits may s line) (cond b (withdrawals (ends_with line) LineLost s.venue.rows) [])
      marked true = all_swept may (ends_with line) LineLost
          (meant_own may (of_line line) anywhere true (lines_own may)) ends
      marked false = tt

  asked_fits : (m : Message) (d : Decision) → Decided (MayBy m) d → Fitting (MayBy m) (requested_as m s d)
  asked_fits m (Err t) f = record { same = refl; acts = tt }
  asked_fits m (Ok acts) f = record { same = refl; acts = f }

  admitted_fits : (may : Change → Type 0) (known : Bool) (r : Result Session LogonRefusal)
      → Fitting may (answered (admitted known line s r))
  admitted_fits may known (Err e) = record { same = refl; acts = tt }
  admitted_fits may true (Ok x) = record { same = refl; acts = tt }
  admitted_fits may false (Ok x) = record { same = refl; acts = tt }

  missed_fits : (may : Change → Type 0) (r : Result (Session × AckResponse) RequestRefusal)
      (m : MissedMessageRequest) → Fitting may (missed_by r line m s)
  missed_fits may (Err e) m = record { same = refl; acts = tt }
  missed_fits may (Ok (x, a)) m = record { same = refl; acts = tt }

  missed_here : (may : Change → Type 0) (ch : Channel) (m : MissedMessageRequest) → Fitting may (missed_on ch line m s)
  missed_here may Recovery m = missed_fits may _ m
  missed_here may RealTime m = record { same = refl; acts = tt }

  logout_fits : (may : Change → Type 0) (ch : Channel) → ((e : Ending) (i : FixedText 20) → may (Withdraw e i))
      → Fitting may (logout ch line s)
  logout_fits may RealTime ends = record { same = refl; acts = ends_fit may ends }
  logout_fits may Recovery ends = record { same = refl; acts = tt }

  where_on : (m : Message) (b : Bool) (o : Outcome) → Fitting (MayBy m) o
      → Fitting (MayBy m) (cond b o (answered (rejection reason.NotLoggedOn m, s)))
  where_on m true o f = f
  where_on m false o f = record { same = refl; acts = tt }

  pub outcome_fits : (ch : Channel) (m : Message) (t : Time) (spare : ℕ)
      → Fitting (MayBy m) (outcome_of ch line m t spare s)
  outcome_fits ch (message.Logon m) t spare =
      admitted_fits (MayBy (message.Logon m)) (admits (slice_get s.participants line) m) _
  outcome_fits ch (message.NewOrder m) t spare =
      where_on (message.NewOrder m) (on ch (session s line)) _ (asked_fits (message.NewOrder m) _ (new_fits m t spare))
  outcome_fits ch (message.OrderCancelRequest m) t spare =
      where_on (message.OrderCancelRequest m) (on ch (session s line)) _
      (asked_fits (message.OrderCancelRequest m) _ (cancel_fits m t spare))
  outcome_fits ch (message.OrderCancelReplaceRequest m) t spare =
      where_on (message.OrderCancelReplaceRequest m) (on ch (session s line)) _
      (asked_fits (message.OrderCancelReplaceRequest m) _ (replace_fits m t spare))
  outcome_fits ch (message.OrderMassCancelRequest m) t spare =
      where_on (message.OrderMassCancelRequest m) (on ch (session s line)) _
      (asked_fits (message.OrderMassCancelRequest m) _ (mass_fits m t spare))
  outcome_fits ch (message.MissedMessageRequest m) t spare =
      where_on (message.MissedMessageRequest m) (on ch (session s line)) _
      (missed_here (MayBy (message.MissedMessageRequest m)) ch m)
  outcome_fits ch (message.Logout m) t spare =
      where_on (message.Logout m) (on ch (session s line)) _
      (logout_fits (MayBy (message.Logout m)) ch (λ e i. tt))
  outcome_fits ch m t spare = where_on m (on ch (session s line)) _ (record { same = refl; acts = tt })
