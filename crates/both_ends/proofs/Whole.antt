-- Downloads, one after the other, until every partition is level. Assumes nothing.
use Rattle.std.specs.Prelude.{nat_lt}
use Rattle.std.proofs.Common.{◌≡◌, ◌≢◌, ◌⊎◌, inl, inr, ℕ, ◌+◌, ◌<◌, ◌≤◌, Bool, true, false, Option, List, [], ◌∷◌, ◌++◌, Ok, Err, Result, length, refl, sym, ap, ◌∙◌, subst, arith, Vec, Global}
use Rattle.std.proofs.lemmas.Bool.{true≢false}
use Rattle.codes.specs.declared.session.Partition.{Partition}
use Rattle.both_ends.proofs.Downloading.{Passed, loads_first, loads_on, passed, recovery_is, sending_is}
use Rattle.both_ends.proofs.Passing.{exchanged_downloads, more_downloads, no_downloads, tried_downloads}
use Rattle.both_ends.proofs.Waiting.{Left, clear_open, given_back, left_none, left_open, reached_on, request_left, sends_left}
use Rattle.both_ends.specs.Allowed.{Message}
use Rattle.both_ends.specs.Asking.{Answer, made}
use Rattle.both_ends.specs.Both.{Ends}
use Rattle.both_ends.specs.Catching.{Downloads, IsOfDownload, IsOpen, granted}
use Rattle.both_ends.specs.Downloading.{Downloaded, Exchanges, IsAsked, IsClear, Loading, Passes, Reached, Waiting}
use Rattle.both_ends.specs.Runs.{call_of}
use Rattle.both_ends.specs.declared.call.Call.TheVariants as call
use Rattle.both_ends.specs.declared.call.Done.{Done}
use Rattle.both_ends.specs.declared.call.Done.TheVariants as done
use Rattle.follower.specs.Following.{download_of}
use Rattle.follower.specs.declared.stage.Stage.TheVariants as stage
use Rattle.gateway_runs.specs.declared.call.Call.{Call as VenueCall}
use Rattle.gateway_runs.specs.declared.call.Call.TheVariants as venue_call
use Rattle.gateway_runs.specs.declared.call.Done.TheVariants as venue
use Rattle.gateway_runs.specs.declared.call.Reply.{Reply}
use Rattle.matching.specs.Asked.{Asked}
use Rattle.texts.specs.declared.values.Time.{Time}
use Rattle.wire.specs.declared.message.TheConstants.{BUFFER}
use Rattle.texts.specs.declared.values.Price.{Price}

-- ---- the calls of a download

recovery_of_download : (c : ℕ) (v : Vec ℕ Global) (t : Time) (buf : Vec ℕ Global) (z : Done)
    → call_of z ≡ call.Venue (venue_call.Recovery c v t buf) → IsOfDownload c z
recovery_of_download c v t buf z e =
    let (r, is, b) = recovery_is c v t buf z e in subst (IsOfDownload c) (sym is) refl

sending_of_download : (c : ℕ) (buf : Vec ℕ Global) (z : Done)
    → call_of z ≡ call.Venue (venue_call.SendRecovered c buf) → IsOfDownload c z
sending_of_download c buf z e = let (r, is, b) = sending_is c buf z e in subst (IsOfDownload c) (sym is) refl

module _ {M Q A : Type 0} (did : M → Asked → M → Type 0) (guided : Bool)
    (learns : M → ℕ → Option Price → Bool → M → Type 0) (answer : Answer Q A) (c : ℕ) where
  -- both ends are reached
  abbrev At : Ends M Q A → Type 0
  At b = Reached (made b.log) b.gateway.state b.desk

  -- ---- the line behind what is exchanged

  -- what a call left, by the call that it was
  request_leaves : (v : Vec ℕ Global) (t : Time) (buf : Vec ℕ Global) (h : Message) (b e : Ends M Q A) → At b
      → IsAsked c v.items (made b.log) → Passes did (call.Venue (venue_call.Recovery c v t buf)) h b e
      → At e × Left c h (made e.log)
  request_leaves v t buf h b e at asked x =
      let (r, is, before) = recovery_is c v t buf x.made x.is in
      let y = passed did c (call.Venue (venue_call.Recovery c v t buf)) (done.Venue (venue.Recovery c v t r)) h b e x is in (
        reached_on did (done.Venue (venue.Recovery c v t r)) b e y.adds at,
        subst (λ j. Left c j (made e.log)) (sym y.bytes) (request_left did c v t r b e y.adds asked),
      )

  sending_leaves : (buf : Vec ℕ Global) (h : Message) (b e : Ends M Q A) → At b → IsClear c (made b.log)
      → Passes did (call.Venue (venue_call.SendRecovered c buf)) h b e → At e × Left c h (made e.log)
  sending_leaves buf h b e at clear x =
      let (r, is, before) = sending_is c buf x.made x.is in
      let y = passed did c (call.Venue (venue_call.SendRecovered c buf)) (done.Venue (venue.SendRecovered c r)) h b e x is in (
        reached_on did (done.Venue (venue.SendRecovered c r)) b e y.adds at,
        subst (λ j. Left c j (made e.log)) (sym y.bytes) (sends_left did c r b e y.adds clear),
      )

  -- a call that leaves something of that kind, and it given to the follower
  exchange_clears : (x : VenueCall) (came : Bool) (b e : Ends M Q A)
      → ((h : Message) (m : Ends M Q A) → Passes did (call.Venue x) h b m → At m × Left c h (made m.log))
      → Exchanges did x came b e → At e × IsClear c (made e.log)
  exchange_clears x false b e leaves y = let (at, l) = leaves [] e y in (at, left_none c (made e.log) l)
  exchange_clears x true b e leaves (m, h, ne, y, z, given, a) =
      let (at, l) = leaves h m y in (reached_on did z m e a at, given_back did c h z m e given a l)

  try_opens : (x : VenueCall) (b e : Ends M Q A) → IsOpen c (made b.log)
      → ((h : Message) (m : Ends M Q A) → Passes did (call.Venue x) h b m → At m × Left c h (made m.log))
      → (e ≡ b) ⊎ ((h : Message) × Passes did (call.Venue x) h b e) → IsOpen c (made e.log)
  try_opens x b e was leaves (inl h) = subst (λ (i : Ends M Q A). IsOpen c (made i.log)) (sym h) was
  try_opens x b e was leaves (inr (h, y)) = left_open c h (made e.log) (leaves h e y).1

  pub asked_open : (m : Message) (b : Ends M Q A) → IsAsked c m (made b.log) → IsOpen c (made b.log)
  asked_open m b a = (a.line, a.allowed, a.began)

  -- ---- from the request on

  -- behind so many calls for what the download hands out next
  pub record UnderWay (m : Message) (b : Ends M Q A) (k : ℕ) (e : Ends M Q A) : Type 0 where
    pub calls : Downloads did guided learns answer c b e
    pub clear : At b → IsAsked c m (made b.log) → At e × IsClear c (made e.log)
    pub whole : (p : Partition) → Waiting c p m b → granted c b.gateway.state < 48
        → Loading c p k b e ⊎ Downloaded c p b e

  -- behind all that were made
  pub record Loaded (m : Message) (b e : Ends M Q A) : Type 0 where
    pub calls : Downloads did guided learns answer c b e
    pub line : At b → IsAsked c m (made b.log) → IsOpen c (made e.log)
    pub whole : (p : Partition) → Waiting c p m b → granted c b.gateway.state < 48 → Downloaded c p b e

  -- and where memory was short
  pub record Stopped (m : Message) (b e : Ends M Q A) : Type 0 where
    pub calls : Downloads did guided learns answer c b e
    pub line : At b → IsAsked c m (made b.log) → IsOpen c (made e.log)

  module _ (v : Vec ℕ Global) (t : Time) (buf : Vec ℕ Global) (wide : nat_lt (length buf.items) BUFFER ≡ false)
      (b : Ends M Q A) where
    abbrev first : VenueCall
    first = venue_call.Recovery c v t buf

    pub not_granted : (e : Ends M Q A) → Exchanges did first false b e → Loaded v.items b e
    not_granted e x = record {
      calls = exchanged_downloads did guided learns answer c first false b e (recovery_of_download c v t buf) x;
      line = λ at a. clear_open c (made e.log)
          (exchange_clears first false b e (λ h m y. request_leaves v t buf h b m at a y) x).1;
      whole = λ p w some. absurd (true≢false (sym (loads_first did c p v t buf wide b w some false e x).0));
    }

    pub is_granted : (e : Ends M Q A) → Exchanges did first true b e → UnderWay v.items b 0 e
    is_granted e x = record {
      calls = exchanged_downloads did guided learns answer c first true b e (recovery_of_download c v t buf) x;
      clear = λ at a. exchange_clears first true b e (λ h m y. request_leaves v t buf h b m at a y) x;
      whole = λ p w some. inl (loads_first did c p v t buf wide b w some true e x).1;
    }

    pub not_given : (e : Ends M Q A) → (e ≡ b) ⊎ ((h : Message) × Passes did (call.Venue first) h b e)
        → Stopped v.items b e
    not_given e x = record {
      calls = tried_downloads did guided learns answer c first b e (recovery_of_download c v t buf) x;
      line = λ at a. try_opens first b e (asked_open v.items b a) (λ h m y. request_leaves v t buf h b m at a y) x;
    }

  module _ (m : Message) (b : Ends M Q A) (k : ℕ) (e : Ends M Q A) (u : UnderWay m b k e) where
    -- nothing is awaited any more
    pub over : download_of e.desk.follower ≡ stage.Idle → Loaded m b e
    over idle = record {
      calls = u.calls;
      line = λ at a. clear_open c (made e.log) (u.clear at a).1;
      whole = λ p w some. by p (u.whole p w some);
    }
      where
        by : (p : Partition) → Loading c p k b e ⊎ Downloaded c p b e → Downloaded c p b e
        by p (inl l) = absurd (let z : stage.Running p ≡ stage.Idle = sym l.runs ∙ idle in cc)
        by p (inr d) = d

    -- as many calls were made as a download has things to hand out
    pub all_out : 64 < k → Loaded m b e
    all_out many = record {
      calls = u.calls;
      line = λ at a. clear_open c (made e.log) (u.clear at a).1;
      whole = λ p w some. by p (u.whole p w some);
    }
      where
        by : (p : Partition) → Loading c p k b e ⊎ Downloaded c p b e → Downloaded c p b e
        by p (inl l) = absurd (let f = l.few in omega arith)
        by p (inr d) = d

    pub stopped : Stopped m b e
    stopped = record { calls = u.calls; line = λ at a. clear_open c (made e.log) (u.clear at a).1 }

    module _ (buf : Vec ℕ Global) (wide : nat_lt (length buf.items) BUFFER ≡ false) where
      abbrev again : VenueCall
      again = venue_call.SendRecovered c buf

      leaves : At b → IsAsked c m (made b.log) → (h : Message) (g : Ends M Q A) → Passes did (call.Venue again) h e g
          → At g × Left c h (made g.log)
      leaves at a h g y = let (i, clear) = u.clear at a in sending_leaves buf h e g i clear y

      pub not_sent : (g : Ends M Q A) → (g ≡ e) ⊎ ((h : Message) × Passes did (call.Venue again) h e g) → Stopped m b g
      not_sent g x = record {
        calls = more_downloads did guided learns answer c b e g u.calls
            (tried_downloads did guided learns answer c again e g (sending_of_download c buf) x);
        line = λ at a. try_opens again e g (clear_open c (made e.log) (u.clear at a).1) (leaves at a) x;
      }

      module _ (awaited : download_of e.desk.follower ≢ stage.Idle) where
        loading : (p : Partition) → Loading c p k b e ⊎ Downloaded c p b e → Loading c p k b e
        loading p (inl l) = l
        loading p (inr d) = absurd (awaited d.ready.asks.idle)

        pub none_out : (g : Ends M Q A) → Exchanges did again false e g → Loaded m b g
        none_out g x = record {
          calls = more_downloads did guided learns answer c b e g u.calls
              (exchanged_downloads did guided learns answer c again false e g (sending_of_download c buf) x);
          line = λ at a. clear_open c (made g.log) (exchange_clears again false e g (leaves at a) x).1;
          whole = λ p w some. absurd (true≢false
              (sym (loads_on did c p k b e (loading p (u.whole p w some)) buf wide false g x).0));
        }

        pub one_out : (g : Ends M Q A) → Exchanges did again true e g → UnderWay m b (k + 1) g
        one_out g x = record {
          calls = more_downloads did guided learns answer c b e g u.calls
              (exchanged_downloads did guided learns answer c again true e g (sending_of_download c buf) x);
          clear = λ at a. exchange_clears again true e g (leaves at a) x;
          whole = λ p w some. (loads_on did c p k b e (loading p (u.whole p w some)) buf wide true g x).1;
        }
