-- One message at the front of a buffer, and what a follower reads there. Assumes nothing.
use Rattle.std.proofs.Common.{◌≡◌, ℕ, ℤ, ◌≤◌, List, ◌++◌, drop, slice_index_or, pos, Some, Option, refl, sym, ap, ◌∙◌, subst, arith}
use Rattle.codes.specs.Session.{partition_code}
use Rattle.codes.specs.declared.session.Partition.{Partition}
use Rattle.codes.specs.contracts.session.PartitionCode.TheImpl.Laws.{sound-law as partition_law}
use Rattle.limits.specs.declared.TheConstants.{MESSAGE_BYTES}
use Rattle.layout.specs.Layout.{Content, figure_of, int32_of}
use Rattle.layout.specs.Layout.Content.{nothing}
use Rattle.layout.specs.Writing.{header}
use Rattle.wire.specs.declared.kinds.Channel.TheVariants.{Follower}
use Rattle.wire.specs.declared.message.Message.{Message}
use Rattle.wire.specs.declared.message.Message.TheVariants as message
use Rattle.wire.specs.Kinds.{letter_of, total_of, table_of, takes}
use Rattle.wire.specs.Messages.{kind_of, contents_of, verdict, written, Holdable, GivenBack, Reads, message_bytes}
use Rattle.wire.specs.Plain.{plain, plain_name, plain_scope}
use Rattle.wire.proofs.Sound.{sound}
use Rattle.wire.proofs.Trips.{trip}
use Rattle.texts.specs.declared.text.Name.{Name}
use Rattle.order_messages.specs.declared.order_mass_cancel_request.Scope.{Scope}
use Rattle.order_messages.specs.declared.order_mass_cancel_request.Scope.TheVariants as scope
use Rattle.reports.specs.declared.report.Report.{Report}
use Rattle.reports.specs.declared.report.Report.TheVariants as report
use Rattle.report_messages.specs.Back.{report_in}
use Rattle.report_messages.specs.Sent.{Sent}
use Rattle.report_messages.specs.Telling.{told_as, kind_told, report_bytes}
use Rattle.report_messages.specs.Told.{Conveys, place_in, Reports, ReportTold}
use Rattle.report_messages.proofs.Takes.{follower_takes}

pub sent : (m : Message) (n : ℕ) (before after : List ℕ) → Holdable m → n ≡ total_of (kind_of m)
    → total_of (kind_of m) ≤ MESSAGE_BYTES → after ≡ written m ++ drop n before → Sent (written m) before after n
sent m n before after h e s w =
    let k = kind_of m in
    let q = header (letter_of k) (total_of k) in
    let t = trip (table_of k) (contents_of m) q (total_of k) refl (sound k).tiles (sound k).looks h in
    let l = t.2 in
    (omega (arith, l, e), omega (arith, e, s), w)

-- what was written is what a follower reads
pub heard : (P : Message → Type 0) (bs : List ℕ) (m : Message) → ((a b : Message) → plain a ≡ plain b → P b → P a)
    → takes Follower (letter_of (kind_of m)) ≡ Some (kind_of m) → Holdable m → GivenBack m → P m → written m ≡ bs
    → Conveys P bs
heard P bs m same t w g h e =
    let back = g Follower t in
    record {
      message = m;
      form = e;
      held = w;
      back = g;
      holds = h;
      taken = ap (verdict Follower) (sym e) ∙ back.0;
      read =
          λ b r.
          let R : List ℕ → Type 0 = λ x. Reads Follower x b in
          same b m (back.1 b (subst R (sym e) r)) h;
    }

-- where its texts are does not matter to what a message says
report_plain : (m : Message) → report_in (plain m) ≡ report_in m
report_plain (message.Logon m) = refl
report_plain _ = refl

place_plain : (m : Message) → place_in (plain m) ≡ place_in m
place_plain (message.Logon m) = refl
place_plain _ = refl

pub kind_plain : (m : Message) → kind_of (plain m) ≡ kind_of m
kind_plain (message.Logon m) = refl
kind_plain _ = refl

scope_plain : (c : Name 20) (s : Scope) → contents_of
    (message.OrderMassCancelRequest (record { client_order_id = plain_name c; scope = plain_scope s }))
    ≡ contents_of (message.OrderMassCancelRequest (record { client_order_id = c; scope = s }))
scope_plain c (scope.FirmInstrument t b) = refl
scope_plain c _ = refl

pub contents_plain : (m : Message) → contents_of (plain m) ≡ contents_of m
contents_plain (message.OrderMassCancelRequest m) = scope_plain m.client_order_id m.scope
contents_plain _ = refl

along : {X : Type 0} (f : Message → X) → ((m : Message) → f (plain m) ≡ f m) → (a b : Message) → plain a ≡ plain b
    → f a ≡ f b
along f p a b e = sym (p a) ∙ ap f e ∙ p b

pub reports_plain : (p : Partition) (n : ℕ) (r : Report) (a b : Message) → plain a ≡ plain b → Reports p n r b
    → Reports p n r a
reports_plain p n r a b e h =
    record {
      report = along report_in report_plain a b e ∙ h.report;
      place = along place_in place_plain a b e ∙ h.place;
      kind = along kind_of kind_plain a b e ∙ h.kind;
      contents = along contents_of contents_plain a b e ∙ h.contents;
    }

-- a message that says what a report's does stands where it does
figure_at : (i : ℕ) {us vs : List Content} → us ≡ vs → figure_of (slice_index_or us i nothing)
    ≡ figure_of (slice_index_or vs i nothing)
figure_at i e = ap (λ ws. figure_of (slice_index_or ws i nothing)) e

int32_at : (i : ℕ) {us vs : List Content} → us ≡ vs → int32_of (slice_index_or us i nothing)
    ≡ int32_of (slice_index_or vs i nothing)
int32_at i e = ap (λ ws. int32_of (slice_index_or ws i nothing)) e

at_place : (q p : Partition) (z : ℤ) (n : ℕ) → partition_code q ≡ partition_code p → z ≡ pos n
    → ◌≡◌ {A = Option (Partition × ℤ)} (Some (q, z)) (Some (p, pos n))
at_place q p z n a b = let f = partition_law.one q p a in cc

placed : (p : Partition) (n : ℕ) (r : Report) (m : Message) → kind_of m ≡ kind_told r → contents_of m ≡ told_as p n r
    → place_in m ≡ Some (p, pos n)
placed p n (report.Execution e) (message.ExecutionReport m) k c =
    at_place m.partition p m.sequence n (figure_at 0 c) (int32_at 1 c)
placed p n (report.CancelReject e) (message.OrderCancelReject m) k c =
    at_place m.partition p m.sequence n (figure_at 0 c) (int32_at 1 c)
placed p n (report.MassCancel e) (message.OrderMassCancelReport m) k c =
    at_place m.partition p m.sequence n (figure_at 0 c) (int32_at 1 c)
placed p n r m k c = cc

pub report_told : (p : Partition) (n : ℕ) (r : Report) (m : Message) → report_in m ≡ Some r → kind_of m ≡ kind_told r
    → contents_of m ≡ told_as p n r → Holdable m → GivenBack m → ReportTold p n r
report_told p n r m b k c w g =
    heard (Reports p n r) (report_bytes p n r) m (reports_plain p n r)
    (subst (λ j. takes Follower (letter_of j) ≡ Some j) (sym k) (follower_takes r)) w g
    (record { report = b; place = placed p n r m k c; kind = k; contents = c })
    (ap (λ j. message_bytes j (contents_of m)) k ∙ ap (message_bytes (kind_told r)) c)

pub same_told : (p q : Partition) (n k : ℕ) (r s : Report) → ReportTold p n r → p ≡ q → n ≡ k → r ≡ s → ReportTold q k s
same_told p q n k r s t a b c =
    subst (ReportTold q k) c (subst (λ x. ReportTold q x r) b (subst (λ x. ReportTold x n r) a t))
