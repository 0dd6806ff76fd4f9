-- What the fields of a venue show, over any matcher and any store, and what holds of them. Assumes nothing.
use Rattle.matching.specs.declared.matcher.Matcher.{Ghosts as Matching}
use Rattle.store.specs.declared.Store.{Ghosts as Storing}
use Rattle.venue.specs.declared.venue.Venue.TheInside.{Inside}
use Rattle.venue.specs.Books.{Books, Over, Roomy, Sound}

module _ {M S : Type 0} where
  abbrev pub shown : Matching M → Storing S → Inside M S → Over Books M
  shown m s d = record {
    state = record {
      instruments = d.ledger.instruments.items;
      rows = d.ledger.table;
      trades = d.trades;
      market = m.meaning d.matcher;
      kept = s.kept d.ledger.store;
    };
    engine = d.matcher;
    free = s.free d.ledger.store;
  }

  -- the books are sound, and each open order has a place for the report of its end
  pub record Keeps (m : Matching M) (s : Storing S) (d : Inside M S) : Type 0 where
    pub sound : Sound (shown m s d).state
    pub spare : Roomy (shown m s d).state (shown m s d).free
