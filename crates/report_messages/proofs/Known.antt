-- What a follower reads from a report's message is found again where it is known to be so: the message apart from where
-- its texts are is one alone. Assumes nothing.
use Rattle.std.proofs.Common.{◌≡◌, ℕ, ◌≤◌, Bool, true, false, List, [], ◌∷◌, length, Some, None, Option, refl, sym, ap, ◌∙◌, subst, arith}
use Rattle.std.specs.Coded.{×_prop, Unit-prop}
use Rattle.std.proofs.Math.Logic.{∥∥₁_elim}
use Rattle.std.proofs.Props.{props}
use Rattle.codes.specs.declared.session.Partition.{Partition}
use Rattle.codes.specs.Lists.{listed}
use Rattle.layout.specs.Holding.{Below, HoldsForm, If, Holds, HoldsAll, HoldsIn, figure_at}
use Rattle.layout.specs.Layout.{Content, taken}
use Rattle.layout.specs.Layout.Content.{words, order, figure, int8, int32, price, clock, nothing}
use Rattle.layout.specs.declared.field.Field.{Field}
use Rattle.layout.specs.declared.field.Field.TheVariants.{Always, When}
use Rattle.layout.specs.declared.field.Form.{Form}
use Rattle.layout.specs.declared.field.Form.TheVariants as form
use Rattle.layout.specs.Writing.{header}
use Rattle.limits.specs.declared.TheConstants.{MESSAGE_BYTES}
use Rattle.wire.specs.Kinds.{letter_of, table_of, total_of}
use Rattle.wire.specs.Messages.{kind_of, contents_of}
use Rattle.wire.specs.Plain.{plain}
use Rattle.wire.specs.declared.kinds.Kind.{Kind}
use Rattle.wire.specs.declared.message.Message.{Message}
use Rattle.wire.specs.declared.message.Message.TheVariants as message
use Rattle.wire.proofs.Returning.{given_back}
use Rattle.wire.proofs.Same.{same}
use Rattle.wire.proofs.Sound.{sound}
use Rattle.wire.proofs.Trips.{trip}
use Rattle.texts.specs.declared.text.Name.{Name}
use Rattle.order_messages.specs.declared.order_mass_cancel_request.Scope.{Scope}
use Rattle.order_messages.specs.declared.order_mass_cancel_request.Scope.TheVariants as scope
use Rattle.reports.specs.declared.report.Report.{Report}
use Rattle.reports.specs.declared.report.Report.TheVariants as report
use Rattle.report_messages.specs.Back.{report_in}
use Rattle.report_messages.specs.Telling.{kind_told, report_bytes, told_as}
use Rattle.report_messages.specs.Told.{ReportTold}
use Rattle.report_messages.proofs.Heard.{contents_plain, kind_plain, report_told, reports_plain}

-- ---- that a message can be written is known in one way

below_prop : (o : Option ℕ) → IsProp (Below o)
below_prop None = Prim.hlevel props
below_prop (Some n) = Prim.hlevel props

form_prop : (f : Form) (v : Content) → IsProp (HoldsForm f v)
form_prop (form.Text w) (words t) = Prim.hlevel props
form_prop (form.Name w) (words t) = Prim.hlevel props
form_prop form.Order (order o) = below_prop o
form_prop form.UInt32 (figure n) = Prim.hlevel props
form_prop form.UInt64 (figure n) = Prim.hlevel props
form_prop form.Sequence (figure n) = Prim.hlevel props
form_prop form.Int8 (int8 z) = Prim.hlevel props
form_prop form.Int32 (int32 z) = Prim.hlevel props
form_prop form.Price (price z) = Prim.hlevel props
form_prop form.Time (clock s u) = Prim.hlevel props
form_prop (form.Code cs) (figure n) = Prim.hlevel props
form_prop form.Alpha (figure n) = Prim.hlevel props
form_prop (form.Reserved w) nothing = Prim.hlevel props
form_prop f v = λ a b. absurd a

if_prop : (b : Bool) (P Q : Type 0) → IsProp P → IsProp Q → IsProp (If b P Q)
if_prop true P Q p q = p
if_prop false P Q p q = q

holds_prop : (at : ℕ → ℕ) (f : Field) (v : Content) → IsProp (Holds at f v)
holds_prop at (Always here f) v = form_prop f v
holds_prop at (When here f other cs) v =
    if_prop (taken (at other) (listed cs)) (HoldsForm f v) (v ≡ nothing) (form_prop f v) (Prim.hlevel props)

all_prop : (at : ℕ → ℕ) (fs : List Field) (vs : List Content) → IsProp (HoldsAll at fs vs)
all_prop at [] [] = Unit-prop
all_prop at [] (v ∷ vs) = λ a b. absurd a
all_prop at (f ∷ fs) [] = λ a b. absurd a
all_prop at (f ∷ fs) (v ∷ vs) = ×_prop (holds_prop at f v) (all_prop at fs vs)

holds_in_prop : (fs : List Field) (vs : List Content) → IsProp (HoldsIn fs vs)
unfolding HoldsIn
holds_in_prop fs vs = all_prop (figure_at fs vs) fs vs

-- ---- and the message of a report apart from where its texts are

scope_again : (c : Name 20) (s : Scope) → plain (plain
    (message.OrderMassCancelRequest (record { client_order_id = c; scope = s })))
    ≡ plain (message.OrderMassCancelRequest (record { client_order_id = c; scope = s }))
scope_again c (scope.FirmInstrument t b) = refl
scope_again c _ = refl

plain_again : (m : Message) → plain (plain m) ≡ plain m
plain_again (message.OrderMassCancelRequest m) = scope_again m.client_order_id m.scope
plain_again (message.Logon m) = refl
plain_again _ = refl

record Known (p : Partition) (n : ℕ) (r : Report) (m : Message) : Type 0 where
  report : report_in m ≡ Some r
  kind : kind_of m ≡ kind_told r
  contents : contents_of m ≡ told_as p n r
  bare : plain m ≡ m
  held : HoldsIn (table_of (kind_of m)) (contents_of m)

known_prop : (p : Partition) (n : ℕ) (r : Report) (m : Message) → IsProp (Known p n r m)
known_prop p n r m =
    let held = holds_in_prop (table_of (kind_of m)) (contents_of m) in
    Prim.hlevel (props, held)

-- there is one alone
one : (p : Partition) (n : ℕ) (r : Report) → IsProp ((m : Message) × Known p n r m)
one p n r (a, x) (b, y) =
    let e : a ≡ b = sym x.bare ∙ same a b (x.kind ∙ sym y.kind) (x.contents ∙ sym y.contents) ∙ y.bare in
    let Q : Message → Type 0 = λ m. (z : Known p n r m) → ◌≡◌ {A = (m : Message) × Known p n r m} (a, x) (m, z) in
    subst Q e (λ z. ap (λ k. (a, k)) (known_prop p n r a x z)) y

known : (p : Partition) (n : ℕ) (r : Report) → ReportTold p n r → (m : Message) × Known p n r m
known p n r t =
    let m = t.message in
    let h = reports_plain p n r (plain m) m (plain_again m) t.holds in
    let H : Kind → List Content → Type 0 = λ k vs. HoldsIn (table_of k) vs in
    let held = subst (λ k. H k (contents_of (plain m))) (sym (kind_plain m))
    (subst (H (kind_of m)) (sym (contents_plain m)) t.held) in
    (plain m, record { report = h.report; kind = h.kind; contents = h.contents; bare = plain_again m; held = held })

-- so what is known to be told is told
pub told_again : (p : Partition) (n : ℕ) (r : Report) → ∥ ReportTold p n r ∥₁ → ReportTold p n r
told_again p n r t =
    let k = ∥∥₁_elim t (one p n r) (known p n r) in
    report_told p n r k.0 k.1.report k.1.kind k.1.contents k.1.held (given_back k.0 k.1.held)

-- the message of a report is no longer than the longest
kind_short : (r : Report) → total_of (kind_told r) ≤ MESSAGE_BYTES
kind_short (report.Execution e) = omega arith
kind_short (report.CancelReject e) = omega arith
kind_short (report.MassCancel e) = omega arith

pub told_short : (p : Partition) (n : ℕ) (r : Report) → ReportTold p n r → length (report_bytes p n r) ≤ MESSAGE_BYTES
told_short p n r t =
    let m = t.message in
    let k = kind_of m in
    let s = trip (table_of k) (contents_of m) (header (letter_of k) (total_of k)) (total_of k) refl (sound k).tiles
    (sound k).looks t.held in
    let long = s.2 in
    let same = ap length t.form in
    let wide = ap total_of t.holds.kind in
    let short = kind_short r in
    omega (arith, long, same, wide, short)
