-- Each call on a gateway over the lit book: the book follows it, and a trade that it reports is fair. Assumes nothing.
use Rattle.std.specs.FinMap.{len}
use Rattle.std.specs.List.{AllByRecursion}
use Rattle.std.proofs.Common.{◌≡◌, ℕ, zero, suc, arith, List, [], ◌∷◌, Some, None, Option, Ok, Err, Result, length, refl, sym, ap, ◌∙◌, subst}
use Rattle.gateway_runs.specs.declared.call.Done.{Done}
use Rattle.gateway_runs.specs.declared.call.Done.TheVariants as done
use Rattle.both_ends.specs.Both.{Begins}
use Rattle.gateway.specs.Calls.{Handed, Hands, Loses, Steps, Undoes, live_handed, recovery_handed, send_fault}
use Rattle.gateway.specs.Doing.{Comes, Stays}
use Rattle.gateway.specs.Hearing.{Checked, Given, Hears, Read, call_fault, outcome_of, reader_of}
use Rattle.gateway.specs.State.{State, venue_of}
use Rattle.gateway.specs.declared.fault.GatewayFault.{GatewayFault}
use Rattle.keyed.specs.Numbers.{under}
use Rattle.layout.specs.declared.fault.Fault.{Fault}
use Rattle.gateway_runs.proofs.Fitting.{outcome_fits}
use Rattle.gateway_runs.specs.Runs.{Does, Runs, giving}
use Rattle.lit_book.proofs.Laws.{served}
use Rattle.lit_book.specs.Books.{LitDid, lit, lit_meaning}
use Rattle.lit_book.specs.declared.book.LitBook.{LitBook}
use Rattle.lit_day.proofs.Acting.{MayDo, acts_follow, all_of, apart_in}
use Rattle.lit_day.proofs.Sending.{ends_may, outcome_may}
use Rattle.lit_day.proofs.Taking.{within}
use Rattle.lit_day.specs.Trading.{Answered, Fairly, Mirrors, Trades, TradesFairly, open_order}
use Rattle.order_book.proofs.Fairs.{lists_apart}
use Rattle.order_book.proofs.Tables.{count}
use Rattle.order_book.specs.Books.{table}
use Rattle.order_book.specs.Lists.{order_in}
use Rattle.order_book.specs.declared.order.Order.{Order}
use Rattle.orders.specs.declared.row.Row.{Row}
use Rattle.requests.specs.Deciding.{spare}
use Rattle.sessions.specs.declared.session.Channel.TheVariants.{RealTime, Recovery}
use Rattle.texts.specs.declared.values.Time.{Time}
use Rattle.venue.specs.Acts.{Act, Take, Void}
use Rattle.venue.specs.Books.{Books, Over}
use Rattle.venue.specs.declared.step.Step.{Step}
use Rattle.wire.specs.Messages.{verdict}

abbrev pub Follows : Over State LitBook → Type 0
Follows x = Mirrors x.state.venue.rows (lit x.engine)

module _ (x y : Over State LitBook) (k : Follows x) where
  -- acts that may be done, after a change of a session
  comes : (t : Time) (u : State) (acts : List Act) → u.venue ≡ x.state.venue → AllByRecursion MayDo acts
      → Comes LitDid t x y u acts → Follows y
  comes t u acts same may c =
      subst (λ (z : State). Mirrors z.venue.rows (lit y.engine)) (sym c.state)
      (acts_follow t acts u.venue x.engine y.engine may c.asked
      (subst (λ (v : Books). Mirrors v.rows (lit x.engine)) (sym same) k))

  idle : (t : Time) → Comes LitDid t x y x.state [] → Follows y
  idle t c = comes t x.state [] refl tt c

  module _ (g : Given) (r : Result ℕ GatewayFault) (out : List ℕ) where
    reads : (o : Option Fault) → Read (Comes LitDid g.time x y) o g x.state r out → Follows y
    reads (Some f) h = idle g.time h.1
    reads None (m, read, h) =
        let o = outcome_of g.channel g.line m g.time g.spare x.state in
        comes g.time o.changed o.acts (outcome_fits x.state g.line g.channel m g.time g.spare).same
        (outcome_may x.state g.line g.channel m g.time g.spare) h.1

    checks : (o : Option GatewayFault) → Checked (Comes LitDid g.time x y) o g x.state r out → Follows y
    checks (Some f) h = idle g.time h.1
    checks None h = reads (verdict (reader_of g.channel) g.bytes) h

    hears : Hears (Comes LitDid g.time x y) g x.state r out → Follows y
    hears h = checks (call_fault (length g.buffer) g.line x.state) h

  steps : (t : Time) (n : ℕ) (r : Result Step GatewayFault) → Steps (Comes LitDid t x y) n x.state r → Follows y
  steps t n (Ok r) (f, e, may, is, c) = comes t x.state (Take e ∷ []) refl (tt, tt) c
  steps t n (Err f) h = idle t h.1

  undoes : (t : Time) (m n : ℕ) (r : Result (Unit {0}) GatewayFault) → Undoes (Comes LitDid t x y) m n x.state r
      → Follows y
  undoes t m n (Ok u) h = comes t x.state (Void m ∷ []) refl (tt, tt) h.1
  undoes t m n (Err f) h = idle t h.1

  loses : (t : Time) (line : ℕ) (r : Result (Unit {0}) GatewayFault) → Loses (Comes LitDid t x y) line x.state r
      → Follows y
  loses t line (Ok u) h = comes t _ _ refl (ends_may x.state line) h.1
  loses t line (Err f) h = idle t h.1

  stays : (u : State) → u.venue ≡ x.state.venue → Stays x y u [] → Follows y
  stays u same e =
      subst Follows (sym e) (subst (λ (v : Books). Mirrors v.rows (lit x.engine)) (sym same) k)

  hands : (o : Option GatewayFault) (h : Handed) (b : List ℕ) (r : Result ℕ GatewayFault) (out : List ℕ)
      → h.after.venue ≡ x.state.venue → Hands (Stays x y) o h x.state b r out → Follows y
  hands (Some f) h b r out same d = stays x.state refl d.1
  hands None h b r out same d = stays h.after same d.1

  pub follows : (d : Done) → Does LitDid x d y → Follows y
  follows (done.RealTime line m t r) h =
      hears (giving RealTime line m.items t r.before.items (spare (venue_of x))) r.answer r.after.items h
  follows (done.Recovery line m t r) h =
      hears (giving Recovery line m.items t r.before.items (spare (venue_of x))) r.answer r.after.items h
  follows (done.Step t r) h = steps t (spare (venue_of x)) r h
  follows (done.CancelTrade n t r) h = undoes t n (spare (venue_of x)) r h
  follows (done.LineLost line t r) h = loses t line r h
  follows (done.Send line r) h =
      hands (send_fault RealTime (length r.before.items) line x.state) (live_handed line x.state) r.before.items r.answer r.after.items refl h
  follows (done.SendRecovered line r) h =
      hands (send_fault Recovery (length r.before.items) line x.state) (recovery_handed line x.state) r.before.items r.answer r.after.items refl h

  -- ---- a trade

  answers : (t : Time) (n : ℕ) (r : Result Step GatewayFault) → Steps (Comes LitDid t x y) n x.state r
      → Answered x.state.venue.rows (lit x.engine) r
  answers t n (Ok r) (f, e, may, is, c) =
      let did = c.asked.1 in
      subst (λ q. Answered x.state.venue.rows (lit x.engine) (Ok q)) (sym is)
      (within x.state.venue (lit x.engine) e k (apart_in x.engine) did.0
      (served (lit x.engine) e (lists_apart (table x.engine.orders) x.engine.orders.resting x.engine.orders.apart)
      x.engine.uncrossed did.0))
  answers t n (Err f) h = tt

  pub fairly : (d : Done) → Does LitDid x d y → Fairly x.state.venue.rows (lit x.engine) d
  fairly (done.Step t r) h = answers t (spare (venue_of x)) r h
  fairly d h = tt

-- ---- calls in turn

pub trades_all : (x : Over State LitBook) (ds : List Done) (y : Over State LitBook) → Runs LitDid x ds y → Follows x
    → Trades x ds y × Follows y
trades_all x [] y e k = (e, subst Follows (sym e) k)
trades_all x (d ∷ ds) y (z, h, sound, r) k =
    let (t, m) = trades_all z ds y r (follows x z k d h) in ((z, h, k, fairly x z k d h, t), m)

-- ---- a day that begins

none_in : (xs : List Order) (n : ℕ) → length xs ≡ 0 → order_in xs n ≡ None
none_in [] n e = refl
none_in (x ∷ xs) n e = absurd (let no : ⊥ = omega arith in no)

none_under : (n : ℕ) → under {X = Row} [] n ≡ None
none_under zero = refl
none_under (suc n) = refl

none_open : (b : LitBook) → len (lit_meaning b).orders ≡ 0 → Mirrors [] (lit b)
none_open b e n =
    let many = count (table b.orders) b.orders.apart in
    ap (λ (l : List Order). order_in l n) (all_of b)
    ∙ none_in (table b.orders) n (omega arith)
    ∙ ap (open_order n) (sym (none_under n))

begins : (x : Over State LitBook) → Begins lit_meaning x → Follows x
begins x b =
    subst (λ rows. Mirrors rows (lit x.engine)) (sym (ap (λ (s : State). s.venue.rows) b.is)) (none_open x.engine b.empty)

pub fair : (x y : Over State LitBook) (ds : List Done) → Begins lit_meaning x → Runs LitDid x ds y → TradesFairly ds y
fair x y ds b r =
    let (t, m) = trades_all x ds y r (begins x b) in record { first = x; begins = b; trades = t; mirrors = m }
