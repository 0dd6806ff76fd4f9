-- A Mass Cancel Request, and what it aims at, by its bytes. Assumes nothing.
use Rattle.std.proofs.Common.{◌≡◌, ℕ, Bool, true, false, ◌||◌, cond, eqb, List, [], ◌∷◌, length, Some, None, Option, Ok, Err, Result, refl, sym, ap, ◌∙◌, arith}
use Rattle.std.specs.Prelude.{find, nat_lt, slice_index_or}
use Rattle.std.proofs.lemmas.Bool.{eqb-true}
use Rattle.codes.specs.Order.{book_code, books, mass_cancel_type_code}
use Rattle.codes.specs.declared.order.Book.{Book}
use Rattle.codes.specs.declared.order.Book.TheVariants.{DarkMidpoint, Integrated}
use Rattle.gateway.specs.Previews.{aim_from, aim_in, alone, is_mass_cancel, request_verdict}
use Rattle.layout.proofs.Values.{all_got}
use Rattle.layout.specs.Layout.{Content, value_of}
use Rattle.layout.specs.Layout.Content.{figure, nothing, words}
use Rattle.layout.specs.declared.fault.Fault.{Fault}
use Rattle.layout.specs.declared.fault.Fault.TheVariants.{Short, Start, Unknown, Length}
use Rattle.order_messages.specs.Terms.{scope_book, scope_kind, scope_segment, scope_symbol}
use Rattle.order_messages.specs.declared.order_mass_cancel_request.OrderMassCancelRequest.{OrderMassCancelRequest}
use Rattle.order_messages.specs.declared.order_mass_cancel_request.Scope.{Scope}
use Rattle.order_messages.specs.declared.order_mass_cancel_request.Scope.TheVariants.{FirmInstrument, FirmSegment, CompId, Firm, CompIdInstrument, CompIdSegment}
use Rattle.requests.specs.MassCancels.{aim_of}
use Rattle.requests.specs.MassCancels.Aim.{instrument}
use Rattle.texts.specs.Bytes.{le, part}
use Rattle.texts.specs.Says.{says}
use Rattle.wire.specs.Kinds.{kinds_of, letter_of, table_of, takes}
use Rattle.wire.specs.Messages.{Reads, contents_of, kind_of, opening, sized, stated, verdict}
use Rattle.wire.specs.declared.kinds.Channel.{Channel}
use Rattle.wire.specs.declared.kinds.Channel.TheVariants.{RealTime}
use Rattle.wire.specs.declared.kinds.Kind.{Kind}
use Rattle.wire.specs.declared.kinds.Kind.TheVariants.{OrderMassCancelRequest as Request}
use Rattle.wire.specs.declared.message.Message.{Message}
use Rattle.wire.specs.declared.message.Message.TheVariants as message

-- ---- the type byte of a message that was read

find_true : (p : Kind → Bool) (ks : List Kind) (k : Kind) → find p ks ≡ Some k → p k ≡ true
find_true p [] k h = absurd (cc)
find_true p (x ∷ ks) k h = here (p x) refl (find_true p ks k) h
  where
    here : (b : Bool) → p x ≡ b → (find p ks ≡ Some k → p k ≡ true) → cond b (Some x) (find p ks) ≡ Some k
        → p k ≡ true
    here true e rest f = let is : x ≡ k = cc in ap p (sym is) ∙ e
    here false e rest f = rest f

opened : (ch : Channel) (bs : List ℕ) (k : Kind) → opening ch bs ≡ Ok k → takes ch (le (part 3 1 bs)) ≡ Some k
unfolding opening
opened ch bs k h = long (nat_lt (length bs) 4 || nat_lt (length bs) (stated bs)) h
  where
    fits : (j : Kind) (b : Bool) → ◌≡◌ {A = Result Kind Fault} (cond b (Ok j) (Err Length)) (Ok k) → Some j ≡ Some k
    fits j true e = let is : j ≡ k = cc in ap Some is
    fits j false e = absurd (cc)

    listed : (o : Option Kind) → sized bs o ≡ Ok k → o ≡ Some k
    listed None e = absurd (cc)
    listed (Some j) e = fits j _ e

    starts : (b : Bool) → cond b (sized bs (takes ch (le (part 3 1 bs)))) (Err Start) ≡ Ok k
        → takes ch (le (part 3 1 bs)) ≡ Some k
    starts true e = listed (takes ch (le (part 3 1 bs))) e
    starts false e = absurd (cc)

    long : (b : Bool)
        → cond b (Err Short) (cond (eqb (le (part 0 1 bs)) 2) (sized bs (takes ch (le (part 3 1 bs)))) (Err Start)) ≡ Ok k
        → takes ch (le (part 3 1 bs)) ≡ Some k
    long true e = absurd (cc)
    long false e = starts (eqb (le (part 0 1 bs)) 2) e

type_at : (bs : List ℕ) → le (part 3 1 bs) ≡ slice_index_or bs 3 0
type_at [] = refl
type_at (a ∷ []) = refl
type_at (a ∷ b ∷ []) = refl
type_at (a ∷ b ∷ c ∷ []) = refl
type_at (a ∷ b ∷ c ∷ d ∷ bs) = omega arith

typed : (bs : List ℕ) (m : Message) → Reads RealTime bs m
    → is_mass_cancel bs ≡ eqb (letter_of (kind_of m)) (letter_of Request)
typed bs m r =
    let t = find_true (λ k. eqb (letter_of k) (le (part 3 1 bs))) (kinds_of RealTime) (kind_of m)
    (opened RealTime bs (kind_of m) r.opens) in
    let same : letter_of (kind_of m) ≡ slice_index_or bs 3 0 = eqb-true _ _ t ∙ type_at bs in
    ap (λ x. eqb x (letter_of Request)) (sym same)

pub own : (bs : List ℕ) (m : OrderMassCancelRequest) → Reads RealTime bs (message.OrderMassCancelRequest m)
    → request_verdict bs ≡ None
own bs m r = ap (λ b. alone b (verdict RealTime bs)) (typed bs (message.OrderMassCancelRequest m) r) ∙ r.passes

-- whether a message is such a request, by its type byte
abbrev pub is_request : Message → Bool
is_request m = eqb (letter_of (kind_of m)) (letter_of Request)

pub the_request : (bs : List ℕ) (m : Message) → Reads RealTime bs m → is_mass_cancel bs ≡ true
    → (n : OrderMassCancelRequest) × (m ≡ message.OrderMassCancelRequest n)
the_request bs m r h = by_message m (sym (typed bs m r) ∙ h)
  where
    by_message : (m : Message) → is_request m ≡ true
        → (n : OrderMassCancelRequest) × (m ≡ message.OrderMassCancelRequest n)
    by_message (message.OrderMassCancelRequest n) e = (n, refl)
    by_message (message.Logon n) e = absurd (let z : false ≡ true = e in cc)
    by_message (message.LogonReply n) e = absurd (let z : false ≡ true = e in cc)
    by_message (message.Logout n) e = absurd (let z : false ≡ true = e in cc)
    by_message (message.Heartbeat n) e = absurd (let z : false ≡ true = e in cc)
    by_message (message.MissedMessageRequest n) e = absurd (let z : false ≡ true = e in cc)
    by_message (message.MissedMessageRequestAck n) e = absurd (let z : false ≡ true = e in cc)
    by_message (message.MissedMessageReport n) e = absurd (let z : false ≡ true = e in cc)
    by_message (message.Reject n) e = absurd (let z : false ≡ true = e in cc)
    by_message (message.NewOrder n) e = absurd (let z : false ≡ true = e in cc)
    by_message (message.OrderCancelRequest n) e = absurd (let z : false ≡ true = e in cc)
    by_message (message.OrderCancelReplaceRequest n) e = absurd (let z : false ≡ true = e in cc)
    by_message (message.ExecutionReport n) e = absurd (let z : false ≡ true = e in cc)
    by_message (message.OrderCancelReject n) e = absurd (let z : false ≡ true = e in cc)
    by_message (message.OrderMassCancelReport n) e = absurd (let z : false ≡ true = e in cc)

-- ---- what it aims at

book_back : (k : Book) → value_of book_code books Integrated (figure (book_code k)) ≡ k
book_back DarkMidpoint = refl
book_back Integrated = refl

aim_back : (w : Content) (x : Scope) → aim_from
    (w ∷ figure (mass_cancel_type_code (scope_kind x)) ∷ scope_symbol x ∷ scope_segment x ∷ nothing ∷ scope_book x
    ∷ nothing ∷ []) ≡ aim_of x
aim_back w (FirmInstrument s k) = ap (λ b. (true, instrument (says s) b)) (book_back k)
aim_back w (CompIdInstrument s k) = ap (λ b. (false, instrument (says s) b)) (book_back k)
aim_back w (FirmSegment s) = refl
aim_back w (CompIdSegment s) = refl
aim_back w Firm = refl
aim_back w CompId = refl

pub aim_read : (bs : List ℕ) (m : OrderMassCancelRequest) → Reads RealTime bs (message.OrderMassCancelRequest m)
    → aim_in bs ≡ aim_of m.scope
aim_read bs m r =
    ap aim_from (all_got (table_of Request) (contents_of (message.OrderMassCancelRequest m)) bs r.says)
    ∙ aim_back (words (says m.client_order_id.text)) m.scope
