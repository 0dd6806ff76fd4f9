-- The laws of the tally. Assumes nothing.
use Rattle.std.specs.Prelude.{◌≡◌, ℕ, ◌+◌, ◌<◌, false, List, Some}
use Rattle.std.specs.Result.{result_unwrap_or}
use Rattle.codes.specs.declared.session.Partition.{Partition}
use Rattle.reports.specs.declared.report.Entry.{Entry}
use Rattle.keyed.specs.Numbers.{under}
use Rattle.reports.specs.Told.{told_of}
use Rattle.reports.specs.Fold.{nothing_known, fold}
use Rattle.reports.specs.Tally.{is_of, tally_one, tally, tally_to, own}

pub record Laws (p : Partition) (o : ℕ) (l : List Entry) : Type 0 where
  -- it starts with no order
  pub start : tally_to p o l 0 ≡ nothing_known
  -- one report further
  pub further : (n : ℕ) (e : Entry) → under l (n + 1) ≡ Some e
      → tally_to p o l (n + 1) ≡ tally_one p o (tally_to p o l n) e
  -- the owner's next report, with others passed over
  pub next : (m n : ℕ) (e : Entry) → m < n → ((k : ℕ) → m < k → k < n → is_of o (under l k) ≡ false)
      → under l n ≡ Some e → e.owner ≡ o
      → tally_to p o l n ≡ result_unwrap_or (fold p (told_of e.report) (tally_to p o l m)) (tally_to p o l m)
  -- with no report of the owner above a number, it is the tally of all
  pub rest : (n : ℕ) → ((k : ℕ) → n < k → is_of o (under l k) ≡ false)
      → tally_to p o l n ≡ tally p o l
  -- only the owner's reports count
  pub only : (l' : List Entry) → own o l ≡ own o l' → tally p o l ≡ tally p o l'

abbrev pub TallyLaws : Type 0
TallyLaws = (p : Partition) (o : ℕ) (l : List Entry) → Laws p o l
