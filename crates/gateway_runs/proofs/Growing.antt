-- Reports are only appended. Assumes nothing.
use Rattle.std.proofs.Common.{◌≡◌, ◌⊎◌, inl, inr, ℕ, ◌+◌, false, List, [], ◌∷◌, ◌++◌, Some, None, Option, length, sym, ap, ◌∙◌, subst}
use Rattle.std.specs.Prelude.{slice_get}
use Rattle.std.proofs.lemmas.List.{append-nil, append_assoc}
use Rattle.changes.specs.Changes.{after}
use Rattle.changes.specs.Laws.{reports_of}
use Rattle.changes.specs.declared.change.Change.{Change}
use Rattle.changes.specs.declared.change.Change.TheVariants.{Accept}
use Rattle.orders.specs.Rows.{accepted}
use Rattle.codes.specs.declared.session.Partition.{Partition}
use Rattle.codes.specs.Session.{same_partition}
use Rattle.configuration.specs.declared.instrument.Instrument.{Instrument}
use Rattle.keyed.specs.Numbers.{under}
use Rattle.gateway_runs.proofs.Leading.{Leads, call_leads}
use Rattle.gateway_runs.specs.Laws.{OnlyAppends}
use Rattle.orders.specs.declared.row.Row.{Row}
use Rattle.partitions.specs.PerPartition.{at}
use Rattle.reports.specs.declared.report.Entry.{Entry}
use Rattle.sessions.specs.Laws.{Grown}
use Rattle.sessions.proofs.Marks.{as_it_is}
use Rattle.store.specs.Kept.{Kept}
use Rattle.texts.specs.declared.values.Time.{Time}
use Rattle.venue.proofs.Recording.{same_or_apart, appended-here, appended-apart}
use Rattle.venue.specs.Ledger.{Ledger, appended, entries_of, told_at, told_in, rewritten}

abbrev pub Grows : Kept → Kept → Type 0
Grows k k' = (p : Partition) → Grown (at k p) (at k' p)

abbrev pub Longer : Ledger → Ledger → Type 0
Longer l l' = Grows l.kept l'.kept

grown_more : (a b c : List Entry) → Grown a b → Grown b c → Grown a c
grown_more a b c (x, e) (y, f) = (x ++ y, f ∙ ap (λ l. l ++ y) e ∙ append_assoc a x y)

appended_grown : (k : Kept) (q p : Partition) (es : List Entry) → (q ≡ p) ⊎ (same_partition q p ≡ false)
    → Grown (at k p) (at (appended k q es) p)
appended_grown k q p es (inl e) = (es, subst (λ u. at (appended k q es) u ≡ at k u ++ es) e (appended-here k q es))
appended_grown k q p es (inr a) = ([], appended-apart k q p es a ∙ sym (append-nil (at k p)))

pub appended_grows : (k : Kept) (q : Partition) (es : List Entry) → Grows k (appended k q es)
appended_grows k q es p = appended_grown k q p es (same_or_apart q p)

told_grows : (t : Time) (c : Change) (r : Row) (i : Option Instrument) (k : Kept) → Grows k (told_in t c r i k)
told_grows t c r None k p = as_it_is (at k p)
told_grows t c r (Some i) k p = appended_grows k i.partition (entries_of r.terms.owner (reports_of (told_at i t) c r)) p

changed_longer : (is : List Instrument) (t : Time) (n : ℕ) (c : Change) (o : Option Row) (l : Ledger)
    → Longer l (rewritten is t n c o l)
changed_longer is t n c None l p = as_it_is (at l.kept p)
changed_longer is t n c (Some r) l p = told_grows t c r (slice_get is r.terms.instrument) l.kept p

longer : (lines : ℕ) → Leads Longer lines
longer lines = record {
  same = λ l p. as_it_is (at l.kept p);
  then = λ a b c f g p. grown_more (at a.kept p) (at b.kept p) (at c.kept p) (f p) (g p);
  change = λ is t n c l k. changed_longer is t n c (after n c (under l.rows n)) l;
  note = λ p e l h. appended_grows l.kept p (e ∷ []);
  add = λ is t s a l h. told_grows t (Accept s a) (accepted (length l.rows + 1) s a) (slice_get is s.instrument) l.kept;
}

pub only_appends : OnlyAppends
only_appends s d w h = call_leads Longer s (longer (length s.lines)) d w h
