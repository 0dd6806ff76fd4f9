-- The first words of lines. Assumes nothing.
use Rattle.std.specs.Prelude.{ℕ, List, Option, codes, find}
use Rattle.std.specs.Str.{bytes_eq}
use Rattle.bench_words.specs.declared.verb.TheConstants.{VERBS}
use Rattle.bench_words.specs.declared.verb.Verb.{Verb}
use Rattle.bench_words.specs.declared.verb.Verb.TheVariants as verb

-- the word for what a line asks
abbrev pub name_of : Verb → List ℕ
name_of verb.CompId = codes "compid"
name_of verb.Instrument = codes "instrument"
name_of verb.Matcher = codes "matcher"
name_of verb.Store = codes "store"
name_of verb.Start = codes "start"
name_of verb.RealTime = codes "real-time"
name_of verb.Recovery = codes "recovery"
name_of verb.Step = codes "step"
name_of verb.CancelTrade = codes "cancel-trade"
name_of verb.LineLost = codes "line-lost"
name_of verb.Send = codes "send"
name_of verb.SendRecovered = codes "send-recovered"
name_of verb.Orders = codes "orders"
name_of verb.Show = codes "show"
name_of verb.Time = codes "time"
name_of verb.Print = codes "print"
name_of verb.Run = codes "run"
name_of verb.Drain = codes "drain"
name_of verb.Download = codes "download"
name_of verb.Logon = codes "logon"
name_of verb.Recover = codes "recover"
name_of verb.Logout = codes "logout"
name_of verb.Buy = codes "buy"
name_of verb.Sell = codes "sell"
name_of verb.Cancel = codes "cancel"
name_of verb.Replace = codes "replace"
name_of verb.MassCancel = codes "mass-cancel"
name_of verb.Preview = codes "preview"
name_of verb.PreviewMassCancel = codes "preview-mass-cancel"
name_of verb.Missed = codes "missed"
name_of verb.Follow = codes "follow"
name_of verb.Up = codes "up"
name_of verb.Live = codes "live"
name_of verb.Ask = codes "ask"
name_of verb.Recovered = codes "recovered"
name_of verb.Lost = codes "lost"
name_of verb.Follower = codes "follower"
name_of verb.Deliver = codes "deliver"
name_of verb.Repeat = codes "repeat"
name_of verb.Pull = codes "pull"
name_of verb.Reconnect = codes "reconnect"
name_of verb.Catch = codes "catch"
name_of verb.Midpoint = codes "midpoint"

-- what has this word
abbrev pub verb_of : List ℕ → Option Verb
verb_of w = find (λ v. bytes_eq (name_of v) w) VERBS
