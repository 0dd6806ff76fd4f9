-- That a download is whole. Assumes nothing.
use Rattle.std.proofs.Common.{◌≡◌, ℕ, zero, suc, ◌+◌, ◌≤◌, true, false, leb, List, [], ◌∷◌, length, take, Some, None, Option, sym, refl, ap, ◌∙◌, arith, length-append}
use Rattle.std.proofs.Math.Seq.{take-nil}
use Rattle.std.proofs.Math.Dec.{leb-zero, leb-suc-zero, leb-suc-suc}
use Rattle.std.proofs.lemmas.Bool.{le-leb, lt-leb}
use Rattle.codes.specs.declared.session.Partition.{Partition}
use Rattle.codes.specs.declared.session.ReportResponse.TheVariants.{Complete, MessageLimit}
use Rattle.limits.specs.declared.TheConstants.{DOWNLOADED}
use Rattle.partitions.specs.PerPartition.{at}
use Rattle.reports.specs.declared.report.Entry.{Entry}
use Rattle.sessions.specs.declared.download.Download.{Download}
use Rattle.sessions.specs.declared.download.HandedOut.{HandedOut}
use Rattle.sessions.specs.declared.download.HandedOut.TheVariants.{Report, Ended}
use Rattle.sessions.specs.Downloads.{up_to, handed_out, answered}
use Rattle.sessions.specs.Laws.{Grown, Growing, owned, whole, hands_out, DownloadsWhole}
use Rattle.sessions.proofs.Owned.{owned_grown, Next, next_owned}
use Rattle.std.specs.List.{cons_option}
use Rattle.store.specs.Kept.{Kept, next_after}

-- nothing comes after the end
nothing_more : (o : ℕ) (ks : List Kept) → hands_out o ks None ≡ []
nothing_more o [] = refl
nothing_more o (k ∷ ks) = nothing_more o ks

-- what a download hands out first
whole_none : (p : Partition) (m n : ℕ) → take (suc n) (whole p m []) ≡ Ended Complete ∷ []
whole_none p m n = rw (take-nil {A = ℕ} m, leb-zero m, take-nil {A = HandedOut} n)

whole_full : (p : Partition) (x : ℕ) (ns : List ℕ) (n : ℕ) → take (suc n) (whole p 0 (x ∷ ns)) ≡ Ended MessageLimit ∷ []
whole_full p x ns n = rw (leb-suc-zero (length ns), take-nil {A = HandedOut} n)

whole_some : (p : Partition) (m x : ℕ) (ns : List ℕ) (n : ℕ) → take (suc n) (whole p (suc m) (x ∷ ns)) ≡ Report p x
    ∷ take n (whole p m ns)
whole_some p m x ns n = rw (leb-suc-suc (length ns) m)

abbrev running : Partition → ℕ → ℕ → ℕ → Download
running p a t h = record { partition = p; last = a; target = t; handed = h }

-- one call
turn : (o : ℕ) (ks : List Kept) (l : List Entry) (p : Partition) (a t h m : ℕ) (r : Option ℕ)
    → h + m ≡ DOWNLOADED → Next o l a t r
    → ((n m' : ℕ) → h + 1 + m' ≡ DOWNLOADED → hands_out o ks (Some (running p n t (h + 1)))
    ≡ take (length ks) (whole p m' (owned l o n t)))
    → cons_option (answered (handed_out (running p a t h) r)).0
    (hands_out o ks (answered (handed_out (running p a t h) r)).1) ≡ take (suc (length ks)) (whole p m (owned l o a t))
turn o ks l p a t h m None e n next =
    ap (λ (rs : List HandedOut). Ended Complete ∷ rs) (nothing_more o ks) ∙ sym (whole_none p m (length ks))
    ∙ ap (λ ns. take (suc (length ks)) (whole p m ns)) (sym n)
turn o ks l p a t h zero (Some x) e n next =
    let b : leb DOWNLOADED h ≡ true = le-leb DOWNLOADED h (omega arith) in
    rw b (ap (λ (rs : List HandedOut). Ended MessageLimit ∷ rs) (nothing_more o ks) ∙ sym
    (whole_full p x (owned l o x t) (length ks))
    ∙ ap (λ ns. take (suc (length ks)) (whole p 0 ns)) (sym n))
turn o ks l p a t h (suc m) (Some x) e n next =
    let b : leb DOWNLOADED h ≡ false = lt-leb DOWNLOADED h (omega arith) in
    rw b (ap (λ (rs : List HandedOut). Report p x ∷ rs) (next x m (omega arith)) ∙ sym
    (whole_some p m x (owned l o x t) (length ks))
    ∙ ap (λ ns. take (suc (length ks)) (whole p (suc m) ns)) (sym n))

-- reports that stand stay when the store grows
kept_on : (l l' : List Entry) → Grown l l' → (o a t : ℕ) → t ≤ length l → (t ≤ length l')
    × (owned l' o a t ≡ owned l o a t)
kept_on l l' (more, e) o a t le =
    let n = length-append l more in
    let m = ap length e in
    (omega arith, ap (λ ys. owned ys o a t) e ∙ owned_grown o l more a t le)

pub downloads : (o : ℕ) (p : Partition) (t : ℕ) (k : Kept) (ks : List Kept) (a h m : ℕ)
    → t ≤ length (at k p) → Growing k ks → h + m ≡ DOWNLOADED
    → hands_out o ks (Some (running p a t h)) ≡ take (length ks) (whole p m (owned (at k p) o a t))
downloads o p t k [] a h m le g e = refl
downloads o p t k (k' ∷ ks) a h m le (g, gs) e =
    let on = kept_on (at k p) (at k' p) (g p) o a t le in
    turn o ks (at k' p) p a t h m (up_to t (next_after (at k' p) o a)) e (next_owned o (at k' p) a t)
    (λ n m' e'. downloads o p t k' ks n (h + 1) m' on.0 gs e')
    ∙ ap (λ ns. take (suc (length ks)) (whole p m ns)) on.1

pub downloads_whole : DownloadsWhole
downloads_whole o p above target k ks le g = downloads o p target k ks above 0 DOWNLOADED le g refl
