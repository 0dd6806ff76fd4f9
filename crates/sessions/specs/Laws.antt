-- What is handed out over many calls, while the store grows. Assumes nothing.
use Rattle.std.specs.Prelude.{◌≡◌, ℕ, ◌+◌, ◌-◌, ◌≤◌, List, [], ◌∷◌, ◌++◌, fold, length, map, take, filter, Some, None, Option, nat_le, ◌==◌, if◌then◌else◌}
use Rattle.std.specs.List.{cons_option, filter_map, range_with_len}
use Rattle.codes.specs.Session.{partition_code}
use Rattle.codes.specs.declared.session.Partition.{Partition}
use Rattle.codes.specs.declared.session.ReportResponse.TheVariants.{Complete, MessageLimit}
use Rattle.keyed.specs.Numbers.{under}
use Rattle.limits.specs.declared.TheConstants.{DOWNLOADED}
use Rattle.partitions.specs.declared.per_partition.PerPartition.{PerPartition}
use Rattle.partitions.specs.PerPartition.{at, with_at}
use Rattle.reports.specs.declared.report.Entry.{Entry}
use Rattle.reports.specs.Tally.{is_of}
use Rattle.sessions.specs.declared.download.Download.{Download}
use Rattle.sessions.specs.declared.download.HandedOut.{HandedOut}
use Rattle.sessions.specs.declared.download.HandedOut.TheVariants.{Report, Ended}
use Rattle.sessions.specs.Downloads.{begun, recovered}
use Rattle.sessions.specs.Sending.{next_to_send, sent_after}
use Rattle.store.specs.Kept.{Kept}

-- reports, and perhaps more at the end
abbrev pub Grown : List Entry → List Entry → Type 0
Grown l l' = (more : List Entry) × (l' ≡ l ++ more)

-- stores, of which each is the one before or has more reports
abbrev pub Growing : Kept → List Kept → Type 0
Growing k [] = Unit {0}
Growing k (k' ∷ ks) = ((p : Partition) → Grown (at k p) (at k' p)) × Growing k' ks

-- the numbers above one, up to another, whose reports are the owner's: rising, each once
abbrev pub owned : List Entry → ℕ → ℕ → ℕ → List ℕ
owned l o above target = filter (λ n. is_of o (under l n)) (range_with_len (above + 1) (target - above))

-- what a whole download of these numbers hands out: at most so many, and whether those were all
abbrev pub whole : Partition → ℕ → List ℕ → List HandedOut
whole p most ns =
    map (λ n. Report p n) (take most ns) ++ Ended (if nat_le (length ns) most then Complete else MessageLimit) ∷ []

-- what a download hands out, one call after another, each over the store as it then is
abbrev pub hands_out : ℕ → List Kept → Option Download → List HandedOut
hands_out o [] d = []
hands_out o (k ∷ ks) d = cons_option (recovered k o d).0 (hands_out o ks (recovered k o d).1)

-- from a request's acceptance on, over any number of calls while the store grows: the owner's reports above the number
-- asked for up to the target, at most 64, and then the end; it is complete exactly where those were all
abbrev pub DownloadsWhole : Type 0
DownloadsWhole =
    (o : ℕ) (p : Partition) (above target : ℕ) (k : Kept) (ks : List Kept)
    → target ≤ length (at k p) → Growing k ks
    → let all = whole p DOWNLOADED (owned (at k p) o above target) in
    hands_out o ks (Some (begun p above target)) ≡ take (length ks) all

-- what is sent, one call after another, each over the store as it then is
abbrev pub sends : ℕ → List Kept → PerPartition ℕ → List (Option (Partition × ℕ))
sends o [] sent = []
sends o (k ∷ ks) sent = next_to_send k o sent ∷ sends o ks (sent_after k o sent)

-- the same where no mark moves but that of a report that is sent
abbrev pub noted : Option (Partition × ℕ) → PerPartition ℕ → PerPartition ℕ
noted None sent = sent
noted (Some (p, n)) sent = with_at sent p n

abbrev pub sends_noted : ℕ → List Kept → PerPartition ℕ → List (Option (Partition × ℕ))
sends_noted o [] sent = []
sends_noted o (k ∷ ks) sent = next_to_send k o sent ∷ sends_noted o ks (noted (next_to_send k o sent) sent)

-- no report is lost by the marks that move past reports of others
abbrev pub MarksLoseNothing : Type 0
MarksLoseNothing =
    (o : ℕ) (k : Kept) (ks : List Kept) (sent : PerPartition ℕ)
    → Growing k ks → sends o (k ∷ ks) sent ≡ sends_noted o (k ∷ ks) sent

-- the number that was sent, where it is of the partition
abbrev pub in_partition : Partition → Option (Partition × ℕ) → Option ℕ
in_partition p None = None
in_partition p (Some (q, n)) = if partition_code q == partition_code p then Some n else None

-- the marks after a call over each of the stores
abbrev pub sent_by : ℕ → List Kept → PerPartition ℕ → PerPartition ℕ
sent_by o ks sent = fold (λ marks k. sent_after k o marks) sent ks

-- the last of the stores
abbrev pub last_of : Kept → List Kept → Kept
last_of k ks = fold (λ before next. next) k ks

-- in each partition what was sent, and what then remains, are the owner's reports above the mark: in order, each once
abbrev pub SendsEach : Type 0
SendsEach =
    (o : ℕ) (p : Partition) (k : Kept) (ks : List Kept) (sent : PerPartition ℕ) → Growing k ks
    → let l = at (last_of k ks) p in
    let after = sent_by o (k ∷ ks) sent in
    let numbers = filter_map (in_partition p) (sends o (k ∷ ks) sent) in
    numbers ++ owned l o (at after p) (length l) ≡ owned l o (at sent p) (length l)
