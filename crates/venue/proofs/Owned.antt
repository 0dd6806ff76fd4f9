-- To whom a change is told. Assumes nothing.
use Rattle.std.specs.Prelude.{slice_get}
use Rattle.std.proofs.Common.{◌≡◌, ℕ, ◌+◌, ◌++◌, ◌⊎◌, false, List, [], length, append-nil, Some, None, Option, inl, inr, refl, sym, ap, ◌∙◌, subst}
use Rattle.codes.specs.declared.session.Partition.{Partition}
use Rattle.codes.specs.Session.{same_partition}
use Rattle.configuration.specs.declared.instrument.Instrument.{Instrument}
use Rattle.texts.specs.declared.values.Time.{Time}
use Rattle.orders.specs.declared.row.Row.{Row}
use Rattle.orders.specs.declared.row.Terms.{Terms}
use Rattle.orders.specs.Rows.{accepted}
use Rattle.orders.proofs.Kept.{kept_at}
use Rattle.partitions.specs.PerPartition.{at}
use Rattle.reports.specs.declared.report.ExecutionReport.{ExecutionReport}
use Rattle.store.specs.Kept.{Kept}
use Rattle.changes.specs.declared.change.Change.{Change}
use Rattle.changes.specs.declared.change.Change.TheVariants.{Accept}
use Rattle.changes.specs.Changes.{after}
use Rattle.changes.specs.Laws.{reports_of}
use Rattle.venue.specs.Laws.{TellsOnly, ChangesTellOwners, EntriesTellOwners}
use Rattle.venue.specs.Ledger.{appended, entries_of, rewritten, told_at, told_in}
use Rattle.venue.proofs.Recording.{same_or_apart, appended-here, appended-apart}
use Rattle.venue.proofs.Rows.{keeps}

nothing_new : (o : ℕ) (k : Kept) → TellsOnly o k k
nothing_new o k p = ([], sym (append-nil (at k p)))

appended_only : (o : ℕ) (k : Kept) (u : Partition) (es : List ExecutionReport)
    → TellsOnly o k (appended k u (entries_of o es))
appended_only o k u es p = go (same_or_apart u p)
  where
    go : (u ≡ p) ⊎ (same_partition u p ≡ false) → (fs : List ExecutionReport)
        × (at (appended k u (entries_of o es)) p ≡ at k p ++ entries_of o fs)
    go (inl e) = (
      es,
      subst (λ x. at (appended k u (entries_of o es)) x ≡ at k x ++ entries_of o es) e
          (appended-here k u (entries_of o es)),
    )
    go (inr away) = ([], appended-apart k u p (entries_of o es) away ∙ sym (append-nil (at k p)))

told_only : (t : Time) (c : Change) (r : Row) (i : Option Instrument) (k : Kept)
    → TellsOnly r.terms.owner k (told_in t c r i k)
told_only t c r None k = nothing_new r.terms.owner k
told_only t c r (Some i) k = appended_only r.terms.owner k i.partition (reports_of (told_at i t) c r)

pub changed_only : ChangesTellOwners
changed_only is t n c l b s was =
    subst (λ x. TellsOnly b.terms.owner l.kept (rewritten is t n c (after n c x) l).kept) (sym was)
    (go (after n c (Some b)) (λ r e. ap (λ (x : Terms). x.owner)
    (keeps n c b r (kept_at l.rows n b s.numbered was).1 e).terms))
  where
    go : (x : Option Row) → ((r : Row) → x ≡ Some r → r.terms.owner ≡ b.terms.owner)
        → TellsOnly b.terms.owner l.kept (rewritten is t n c x l).kept
    go None own = nothing_new b.terms.owner l.kept
    go (Some r) own =
        subst (λ o. TellsOnly o l.kept (told_in t c r (slice_get is r.terms.instrument) l.kept)) (own r refl)
        (told_only t c r (slice_get is r.terms.instrument) l.kept)

pub entered_only : EntriesTellOwners
entered_only is t s a l = told_only t (Accept s a) (accepted (length l.rows + 1) s a) (slice_get is s.instrument) l.kept
