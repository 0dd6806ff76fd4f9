-- What is written is heard. Assumes nothing.
use Rattle.std.proofs.Common.{◌≡◌, ℕ, pos, Some, None, Ok, Option, refl, sym, subst, ap, ◌∙◌}
use Rattle.std.specs.Option.{option_map}
use Rattle.codes.specs.declared.session.Partition.{Partition}
use Rattle.layout.specs.declared.fault.Fault.TheVariants as fault
use Rattle.layout.specs.Writing.{header, encode}
use Rattle.wire.specs.declared.kinds.Channel.TheVariants.{Follower}
use Rattle.wire.specs.declared.message.Message.{Message}
use Rattle.wire.specs.declared.message.Message.TheVariants as message
use Rattle.wire.specs.Kinds.{letter_of, total_of, table_of, takes}
use Rattle.wire.specs.Messages.{kind_of, contents_of, after_opening, written}
use Rattle.wire.proofs.Opening.{opened}
use Rattle.wire.proofs.Sound.{sound}
use Rattle.wire.proofs.Trips.{trip}
use Rattle.reports.specs.declared.standing.Told.{Told}
use Rattle.reports.specs.declared.report.Report.{Report}
use Rattle.reports.specs.declared.report.Report.TheVariants as report
use Rattle.reports.specs.Told.{told_of}
use Rattle.report_messages.specs.Back.{told_in}
use Rattle.report_messages.proofs.Told.{told_same}
use Rattle.report_messages.specs.Telling.{told_as, kind_told}
use Rattle.report_messages.proofs.Takes.{follower_takes}
use Rattle.follower.specs.declared.heard.Heard.{Heard}
use Rattle.follower.specs.declared.heard.Heard.TheVariants as heard
use Rattle.follower.specs.Hearing.{heard as heard_of, heard_from}
use Rattle.follower.specs.Laws.{WrittenHeard, Tells, ReportsHeard}
use Rattle.follower.proofs.Hears.{contents_say, heard_by, partition_back}

pub written_heard : WrittenHeard
written_heard m taken h =
    let j = kind_of m in
    let q = header (letter_of j) (total_of j) in
    let t = trip (table_of j) (contents_of m) q (total_of j) refl (sound j).tiles (sound j).looks h in
    let o = opened Follower j (encode (table_of j) (contents_of m)) t.2 taken in
    heard_by (written m) m (ap (after_opening (written m)) o ∙ ap (λ x. option_map (λ at. fault.Field at) x) t.0) o t.1

-- what is told, where a report is heard
abbrev told_heard : Heard → Option Told
told_heard (heard.Report p h) = h.told
told_heard h = None

told_is : (m : Message) → told_heard (heard_of m) ≡ told_in m
told_is (message.ExecutionReport m) = refl
told_is m = refl

-- every report's message begins with its partition and its number
abbrev told_by : Partition → ℕ → Report → Option Told
told_by p n r = told_heard (heard_from (kind_told r) (told_as p n r))

begins : (p : Partition) (n : ℕ) (r : Report) → heard_from (kind_told r) (told_as p n r)
    ≡ heard.Report p (record { sequence = pos n; told = told_by p n r })
begins p n (report.Execution e) =
    ap (λ q. heard.Report q (record { sequence = pos n; told = told_by p n (report.Execution e) })) (partition_back p)
begins p n (report.CancelReject e) =
    ap (λ q. heard.Report q (record { sequence = pos n; told = None })) (partition_back p)
begins p n (report.MassCancel e) = ap (λ q. heard.Report q (record { sequence = pos n; told = None }))
    (partition_back p)

-- what a message tells by its contents
said : (p : Partition) (n : ℕ) (r : Report) (m : Message) → Tells p n r m → heard_of m
    ≡ heard_from (kind_told r) (told_as p n r)
said p n r m t =
    sym (contents_say m) ∙ ap (λ k. heard_from k (contents_of m)) t.kind ∙ ap (heard_from (kind_told r)) t.contents

pub told : (p : Partition) (n : ℕ) (r : Report) (m : Message) → Tells p n r m → heard_of m
    ≡ heard.Report p (record { sequence = pos n; told = told_of r })
told p n r m t =
    let same : told_by p n r ≡ told_of r = ap told_heard (sym (said p n r m t)) ∙ told_is m
    ∙ told_same m r (told_in m) refl t.back in
    said p n r m t ∙ begins p n r ∙ ap (λ x. heard.Report p (record { sequence = pos n; told = x })) same

pub reports_heard : ReportsHeard
reports_heard p n r m t h =
    written_heard m (subst (λ j. takes Follower (letter_of j) ≡ Some j) (sym t.kind) (follower_takes r)) h
    ∙ ap Ok (told p n r m t)
