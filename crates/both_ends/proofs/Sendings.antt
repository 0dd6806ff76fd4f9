-- What is sent next, and what a download hands out next. Assumes nothing.
use Rattle.std.specs.Prelude.{nat_le}
use Rattle.std.proofs.Common.{◌≡◌, ◌≢◌, ℕ, ◌+◌, ◌<◌, ◌≤◌, max, Bool, true, false, cond, leb, List, Some, None, Option, length, refl, subst, arith}
use Rattle.std.proofs.lemmas.Bool.{leb-false}
use Rattle.codes.specs.declared.session.Partition.{Partition}
use Rattle.codes.specs.declared.session.Partition.TheVariants.{One, Two, Three}
use Rattle.codes.specs.declared.session.ReportResponse.TheVariants as ending
use Rattle.both_ends.proofs.Flights.{Passed, Next, found, passed_all}
use Rattle.both_ends.proofs.Carrying.{Moves, Sent, Further}
use Rattle.limits.specs.declared.TheConstants.{DOWNLOADED}
use Rattle.partitions.specs.PerPartition.{at, with_at}
use Rattle.partitions.specs.declared.per_partition.PerPartition.{PerPartition}
use Rattle.reports.specs.declared.report.Entry.{Entry}
use Rattle.sessions.proofs.Marks.{after, first}
use Rattle.sessions.specs.Downloads.{up_to, remaining, handed_out}
use Rattle.sessions.specs.Sending.{found as found_at, next_to_send, sent_after}
use Rattle.sessions.specs.declared.download.Download.{Download}
use Rattle.sessions.specs.declared.download.HandedOut.{HandedOut}
use Rattle.sessions.specs.declared.download.HandedOut.TheVariants.{Report, Ended}
use Rattle.store.proofs.Nexts.{next-lowest}
use Rattle.store.specs.Kept.{Kept, next_after}
use Rattle.store.specs.Laws.{Lowest}

-- ---- the real-time channel

-- how the marks move, by what is sent
abbrev pub SentBy : ℕ → Kept → PerPartition ℕ → PerPartition ℕ → Option (Partition × ℕ) → Type 0
SentBy c k s s' None = (p : Partition) → Moves c (at k p) (at s p) (at s' p)
SentBy c k s s' (Some (q, n)) = Sent c k s s' q n

stay : (c : ℕ) (l : List Entry) (s : ℕ) → s ≤ length l → Moves c l s s
stay c l s w = record { within = w; up = omega arith; passed = λ j lt le. absurd (omega (arith, lt, le)) }

pass : (c : ℕ) (l : List Entry) (s : ℕ) → s ≤ length l → Lowest l c s None → Moves c l s (max s (length l))
pass c l s w h = record {
  within = omega (arith, w);
  up = omega arith;
  passed = passed_all c l s (max s (length l)) h;
}

module _ (c : ℕ) (k : Kept) (s : PerPartition ℕ) (w : (p : Partition) → at s p ≤ length (at k p)) where
  looks : (r1 r2 r3 : Option ℕ) → Lowest k.one c s.one r1 → Lowest k.two c s.two r2 → Lowest k.three c s.three r3
      → SentBy c k s (after r1 r2 r3 k s) (first r1 r2 r3)
  looks (Some n) r2 r3 h1 h2 h3 = record { above = h1.0; next = found c k.one s.one n h1; mark = refl; others = others }
    where
      others : (p : Partition) → One ≢ p → Moves c (at k p) (at s p) (at (with_at s One n) p)
      others One ne = absurd (ne refl)
      others Two ne = stay c k.two s.two (w Two)
      others Three ne = stay c k.three s.three (w Three)
  looks None (Some n) r3 h1 h2 h3 = record { above = h2.0; next = found c k.two s.two n h2; mark = refl; others = others }
    where
      others : (p : Partition) → Two ≢ p → Moves c (at k p) (at s p)
          (at (with_at (with_at s One (max s.one (length k.one))) Two n) p)
      others One ne = pass c k.one s.one (w One) h1
      others Two ne = absurd (ne refl)
      others Three ne = stay c k.three s.three (w Three)
  looks None None (Some n) h1 h2 h3 = record { above = h3.0; next = found c k.three s.three n h3; mark = refl; others = others }
    where
      others : (p : Partition) → Three ≢ p → Moves c (at k p) (at s p) (at (after None None (Some n) k s) p)
      others One ne = pass c k.one s.one (w One) h1
      others Two ne = pass c k.two s.two (w Two) h2
      others Three ne = absurd (ne refl)
  looks None None None h1 h2 h3 = all
    where
      all : (p : Partition) → Moves c (at k p) (at s p) (at (after None None None k s) p)
      all One = pass c k.one s.one (w One) h1
      all Two = pass c k.two s.two (w Two) h2
      all Three = pass c k.three s.three (w Three) h3

  pub sends : SentBy c k s (sent_after k c s) (next_to_send k c s)
  sends = looks (found_at k c s One) (found_at k c s Two) (found_at k c s Three) (next-lowest k.one c s.one)
      (next-lowest k.two c s.two) (next-lowest k.three c s.three)

-- ---- a download

-- what is handed out, and what is left of the download
abbrev pub HandedBy : ℕ → List Entry → Download → HandedOut × Option Download → Type 0
HandedBy c l d (Report p n, None) = ⊥
HandedBy c l d (Report p n, Some d') = (p ≡ d.partition) × Next c l d.last n × Further d d' n
HandedBy c l d (Ended r, None) = r ≡ ending.Complete → Passed c l d.last d.target
HandedBy c l d (Ended r, Some d') = ⊥

none_in : (c : ℕ) (l : List Entry) (d : Download) (r : Option ℕ) → Lowest l c d.last r → up_to d.target r ≡ None
    → Passed c l d.last d.target
none_in c l d None h e = passed_all c l d.last d.target h
none_in c l d (Some n) h e = by (leb n d.target) refl e
  where
    by : (b : Bool) → leb n d.target ≡ b → cond b (Some n) None ≡ None → Passed c l d.last d.target
    by true f g = absurd cc
    by false f g = let lt : d.target < n = leb-false n d.target f in λ j p q. h.2 j p (omega (arith, q, lt))

pub one_in : (c : ℕ) (l : List Entry) (d : Download) (r : Option ℕ) (n : ℕ) → Lowest l c d.last r → up_to d.target r
    ≡ Some n → Next c l d.last n
one_in c l d None n h e = absurd cc
one_in c l d (Some m) n h e = by (leb m d.target) refl e
  where
    by : (b : Bool) → leb m d.target ≡ b → cond b (Some m) None ≡ Some n → Next c l d.last n
    by true f g = let same : m ≡ n = cc in subst (λ u. Next c l d.last u) same (found c l d.last m h)
    by false f g = absurd cc

hands_by : (c : ℕ) (l : List Entry) (d : Download) (r : Option ℕ) → (r ≡ None → Passed c l d.last d.target)
    → ((n : ℕ) → r ≡ Some n → Next c l d.last n) → HandedBy c l d (handed_out d r)
hands_by c l d None f g = λ e. f refl
hands_by c l d (Some n) f g = by (nat_le DOWNLOADED d.handed)
  where
    by : (b : Bool) → HandedBy c l d (cond b (Ended ending.MessageLimit, None)
        (Report d.partition n, Some (record d { last = n; handed = d.handed + 1 })))
    by true = λ e. absurd (limit e)
      where
        limit : ending.MessageLimit ≡ ending.Complete → ⊥
        limit e = cc
    by false = (refl, g n refl, record { partition = refl; target = refl; last = refl })

pub hands : (c : ℕ) (l : List Entry) (d : Download) → HandedBy c l d (handed_out d (remaining l c d))
hands c l d =
    let low = next-lowest l c d.last in
    hands_by c l d (remaining l c d) (λ e. none_in c l d (next_after l c d.last) low e)
    (λ n e. one_in c l d (next_after l c d.last) n low e)
