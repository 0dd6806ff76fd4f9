-- Books from their parts. Assumes nothing.
use Rattle.std.proofs.Common.{◌≡◌, List, ap, ◌∙◌}
use Rattle.configuration.specs.declared.instrument.Instrument.{Instrument}
use Rattle.matching.specs.Meaning.{Meaning}
use Rattle.orders.specs.declared.row.Row.{Row}
use Rattle.orders.specs.declared.trade.Trade.{Trade}
use Rattle.store.specs.Kept.{Kept}
use Rattle.venue.specs.Books.{Books}
use Rattle.venue.specs.Ledger.{Ledger, ledger}

abbrev pub books : List Instrument → Ledger → List Trade → Meaning → Books
books is l ts m = record { instruments = is; rows = l.rows; trades = ts; market = m; kept = l.kept }

pub same_books : (is is' : List Instrument) (rows : List Row) (kept : Kept) (l : Ledger) (ts ts' : List Trade)
    (m m' : Meaning) → is ≡ is' → ledger rows kept ≡ l → ts ≡ ts' → m ≡ m'
    → books is (ledger rows kept) ts m ≡ books is' l ts' m'
same_books is is' rows kept l ts ts' m m' a b c d =
    ap (λ x. books x (ledger rows kept) ts m) a ∙ ap (λ x. books is' x ts m) b ∙ ap (λ x. books is' l x m) c
    ∙ ap (λ x. books is' l ts' x) d
