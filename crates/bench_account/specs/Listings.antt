-- How orders are listed. Assumes nothing.
use Rattle.std.specs.Prelude.{ℕ, Bool, true, false, List, ◌++◌, codes, decimal}
use Rattle.bench_account.specs.declared.listing.Figures.{Figures}
use Rattle.bench_account.specs.declared.listing.Followed.{Followed}
use Rattle.bench_account.specs.declared.listing.Listed.{Listed}
use Rattle.bench_account.specs.declared.listing.Naming.{Naming}
use Rattle.bench_account.specs.declared.listing.Place.{Place}
use Rattle.bench_account.specs.declared.listing.Preview.{Preview}
use Rattle.bench_account.specs.declared.listing.Progress.{Progress}
use Rattle.bench_account.specs.declared.listing.Progress.TheVariants as progress
use Rattle.bench_account.specs.declared.listing.Taken.{Taken}
use Rattle.bench_account.specs.declared.listing.Totals.{Totals}

abbrev pub naming_text : Naming → List ℕ
naming_text n =
    (codes "order " ++ (decimal n.number ++ (codes " compid " ++ (n.comp_id.now ++ codes " "))))
    ++ (codes "symbol " ++ (n.symbol.now ++ (codes " side "
    ++ (decimal n.side ++ (codes " status " ++ decimal n.status)))))

abbrev pub figures_text : Figures → List ℕ
figures_text f =
    (codes "ordered " ++ (decimal f.ordered ++ (codes " executed " ++ (decimal f.executed ++ codes " "))))
    ++ (codes "open " ++ (decimal f.leaves ++ (codes " withdrawn " ++ decimal f.withdrawn)))

abbrev pub listed_text : Listed → List ℕ
listed_text o = naming_text o.naming ++ (codes " " ++ figures_text o.figures)

abbrev pub totals_text : Totals → List ℕ
totals_text t =
    codes "orders " ++ (decimal t.orders ++ (codes " trades "
    ++ (decimal t.trades ++ (codes " reports " ++ decimal t.reports))))

abbrev pub is_level : Progress → Bool
is_level progress.Level = true
is_level (progress.Behind n) = false
is_level (progress.Overrun n) = false

abbrev pub progress_text : Progress → List ℕ
progress_text progress.Level = codes "level held 0"
progress_text (progress.Behind n) = codes "behind held " ++ decimal n
progress_text (progress.Overrun n) = codes "overrun held 0 passed " ++ decimal n

abbrev pub place_text : Place → List ℕ
place_text p =
    codes "partition " ++ (decimal p.partition ++ (codes " place "
    ++ (decimal p.number ++ (codes " " ++ progress_text p.progress))))

abbrev pub followed_text : Followed → List ℕ
followed_text o =
    (codes "order " ++ (decimal o.number ++ (codes " partition " ++ (decimal o.partition ++ codes " "))))
    ++ (codes "status " ++ (decimal o.status ++ (codes " executed "
    ++ (decimal o.executed ++ (codes " open " ++ decimal o.leaves)))))

abbrev pub taken_text : Taken → List ℕ
taken_text t = decimal t.orders ++ (codes " " ++ decimal t.shares)

abbrev pub preview_text : Preview → List ℕ
preview_text p =
    codes "preview " ++ (taken_text p.one ++ (codes " " ++ (taken_text p.two ++ (codes " " ++ taken_text p.three))))
