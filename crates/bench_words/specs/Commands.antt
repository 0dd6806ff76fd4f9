-- What the words of a line ask for: a command, or why they are not understood. Assumes nothing.
use Rattle.std.specs.Prelude.{ℕ, Bool, true, false, ◌&&◌, if◌then◌else◌, List, [], length, drop, Some, None, Ok, Err, Option, Result, codes, nat_le, ◌==◌, slice_index_or}
use Rattle.std.specs.Borrow.{Bor}
use Rattle.std.specs.Str.{bytes_eq}
use Rattle.codes.specs.declared.order.Book.{Book}
use Rattle.codes.specs.declared.order.Book.TheVariants.{DarkMidpoint, Integrated}
use Rattle.codes.specs.declared.order.Side.{Side}
use Rattle.codes.specs.declared.order.Side.TheVariants as side
use Rattle.terms.specs.declared.lifetime.Lifetime.{Lifetime}
use Rattle.terms.specs.declared.lifetime.Lifetime.TheVariants.{Day, ImmediateOrCancel}
use Rattle.texts.specs.declared.values.Price.{Price}
use Rattle.texts.specs.declared.values.Time.{Time}
use Rattle.bench_words.specs.declared.bytes.Bytes.{Bytes}
use Rattle.bench_words.specs.declared.command.Cable.TheVariants as cable
use Rattle.bench_words.specs.declared.command.Call.TheVariants as call
use Rattle.bench_words.specs.declared.command.Command.{Command}
use Rattle.bench_words.specs.declared.command.Command.TheVariants as command
use Rattle.bench_words.specs.declared.command.Desk.TheVariants as desk
use Rattle.bench_words.specs.declared.command.Request.{Request}
use Rattle.bench_words.specs.declared.command.Request.TheVariants as request
use Rattle.bench_words.specs.declared.command.Scope.{Scope}
use Rattle.bench_words.specs.declared.command.Scope.TheVariants as scope
use Rattle.bench_words.specs.declared.command.Setup.TheVariants as setup
use Rattle.bench_words.specs.declared.command.Style.TheVariants as style
use Rattle.bench_words.specs.declared.misread.Misread.{Misread}
use Rattle.bench_words.specs.declared.misread.Misread.TheVariants as why
use Rattle.bench_words.specs.declared.verb.Verb.{Verb}
use Rattle.bench_words.specs.declared.verb.Verb.TheVariants as verb
use Rattle.bench_words.specs.Bytes.{is_bytes}
use Rattle.bench_words.specs.Lines.{Words}
use Rattle.bench_words.specs.Tapes.{is_tape}
use Rattle.bench_words.specs.Verbs.{verb_of}
use Rattle.bench_words.specs.Words.{app_of, line_of, number_of, part_of, price_of, pricing_of, shares_of, side_of, small_of, time_of, yes_of}

-- the second step, if the first gave a value
infixr 5 ◌then◌
abbrev pub ◌then◌ : {A B : Type 0} → Result A Misread → (A → Result B Misread) → Result B Misread
Ok x then f = f x
Err e then f = Err e

-- a word of a line, the first at 0, and its text
abbrev pub word : Words → ℕ → Bor (List ℕ)
word ws k = slice_index_or ws k (record { ref_ptr = (0, 0); now = [] })

abbrev pub text : Words → ℕ → List ℕ
text ws k = (word ws k).now

-- as many words as there are to be
abbrev pub of_count : {A : Type 0} → ℕ → Words → Result A Misread → Result A Misread
of_count n ws r = if length ws == n then r else Err why.Count

abbrev pub of_least : {A : Type 0} → ℕ → Words → Result A Misread → Result A Misread
of_least n ws r = if nat_le n (length ws) then r else Err why.Count

-- the only word behind the first
abbrev pub lone_of : Words → Result (Bor (List ℕ)) Misread
lone_of ws = of_count 2 ws (Ok (word ws 1))

abbrev pub on_line : Words → Result ℕ Misread
on_line ws = lone_of ws then λ w. line_of w.now

abbrev pub at_time : Words → Result Time Misread
at_time ws = lone_of ws then λ w. time_of w.now

abbrev pub bytes_said : Bor (List ℕ) → Result Bytes Misread
bytes_said w = if is_bytes w.now then Ok (record { word = w }) else Err why.Bytes

-- a command of one word
abbrev pub alone_of : Words → Command → Result Command Misread
alone_of ws c = of_count 1 ws (Ok c)

-- show HEX
abbrev pub show_of : Words → Result Command Misread
show_of ws = (lone_of ws then bytes_said) then λ bytes. Ok (command.Show bytes)

abbrev pub live_of : Words → Result Command Misread
live_of ws = (lone_of ws then bytes_said) then λ bytes. Ok (command.Desk (desk.Live bytes))

abbrev pub recovered_of : Words → Result Command Misread
recovered_of ws = (lone_of ws then bytes_said) then λ bytes. Ok (command.Desk (desk.Recovered bytes))

-- ask PARTITION
abbrev pub ask_of : Words → Result Command Misread
ask_of ws = (lone_of ws then λ w. part_of w.now) then λ partition. Ok (command.Desk (desk.Ask partition))

-- ---- what a person does with the line that is followed

-- deliver, or deliver recovered
abbrev pub deliver_of : Words → Result Command Misread
deliver_of ws =
    if length ws == 1 then Ok (command.Cable cable.Deliver)
    else if (length ws == 2) && bytes_eq (text ws 1) (codes "recovered") then Ok (command.Cable cable.DeliverRecovered)
    else Err why.Delivery

-- repeat, repeat recovered, or repeat BACK
abbrev pub repeat_of : Words → Result Command Misread
repeat_of ws =
    if length ws == 1 then Ok (command.Cable (cable.Repeat 1))
    else if (length ws == 2) && bytes_eq (text ws 1) (codes "recovered") then Ok (command.Cable cable.RepeatRecovered)
    else of_count 2 ws (number_of (text ws 1) then λ back. Ok (command.Cable (cable.Repeat back)))

-- catch up
abbrev pub catch_of : Words → Result Command Misread
catch_of ws =
    if (length ws == 2) && bytes_eq (text ws 1) (codes "up") then Ok (command.Cable cable.CatchUp) else Err why.Name

-- ---- what a gateway is started with

-- compid NAME PASSWORD FIRM yes|no
abbrev pub comp_id_of : Words → Result Command Misread
comp_id_of ws =
    of_count 5 ws (small_of (text ws 3) then λ firm. yes_of (text ws 4)
    then λ ends. Ok (command.Setup (setup.CompId (word ws 1) (word ws 2) firm ends)))

-- instrument SYMBOL SEGMENT PARTITION
abbrev pub instrument_of : Words → Result Command Misread
instrument_of ws =
    of_count 4 ws (part_of (text ws 3) then λ partition. Ok
    (command.Setup (setup.Instrument (word ws 1) (word ws 2) partition)))

abbrev pub tape_said : Bor Words → Result Command Misread
tape_said ws = if is_tape ws.now then Ok (command.Setup (setup.Tape (record { words = ws }))) else Err why.Tape

abbrev pub is_lit : Words → Bool
is_lit ws = (length ws == 2) && bytes_eq (text ws 1) (codes "lit")

abbrev pub is_dark : Words → Bool
is_dark ws = (length ws == 2) && bytes_eq (text ws 1) (codes "dark")

abbrev pub is_pair : Words → Bool
is_pair ws = (length ws == 2) && bytes_eq (text ws 1) (codes "pair")

abbrev pub is_played : Words → Bool
is_played ws = nat_le 2 (length ws) && bytes_eq (text ws 1) (codes "tape")

-- matcher lit, matcher dark, matcher pair, or matcher tape ORDER,QTY,PRICE ..
abbrev pub matcher_of : Bor Words → Result Command Misread
matcher_of ws =
    if is_lit ws.now then Ok (command.Setup setup.Lit)
    else if is_dark ws.now then Ok (command.Setup setup.Dark)
    else if is_pair ws.now then Ok (command.Setup setup.Pair)
    else if is_played ws.now then tape_said ws
    else Err why.Matcher

-- store records PLACES, or store wire BYTES
abbrev pub store_of : Words → Result Command Misread
store_of ws =
    if (length ws == 3) && bytes_eq (text ws 1) (codes "records")
    then (number_of (text ws 2) then λ n. Ok (command.Setup (setup.Records n)))
    else if (length ws == 3) && bytes_eq (text ws 1) (codes "wire")
    then (number_of (text ws 2) then λ n. Ok (command.Setup (setup.Wire n)))
    else Err why.Store

-- ---- the calls

-- .. LINE TIME HEX
abbrev pub message_of : Words → Result (ℕ × Time × Bytes) Misread
message_of ws =
    of_count 4 ws (line_of (text ws 1) then λ line. time_of (text ws 2) then λ time. bytes_said (word ws 3)
    then λ bytes. Ok (line, time, bytes))

abbrev pub real_time_of : Words → Result Command Misread
real_time_of ws = message_of ws then λ m. Ok (command.Call (call.RealTime m.0 m.1 m.2))

abbrev pub recovery_of : Words → Result Command Misread
recovery_of ws = message_of ws then λ m. Ok (command.Call (call.Recovery m.0 m.1 m.2))

-- cancel-trade NUMBER TIME
abbrev pub cancel_trade_of : Words → Result Command Misread
cancel_trade_of ws =
    of_count 3 ws (number_of (text ws 1) then λ number. time_of (text ws 2)
    then λ time. Ok (command.Call (call.CancelTrade number time)))

-- line-lost LINE TIME
abbrev pub line_lost_of : Words → Result Command Misread
line_lost_of ws =
    of_count 3 ws (line_of (text ws 1) then λ line. time_of (text ws 2)
    then λ time. Ok (command.Call (call.LineLost line time)))

-- ---- the messages that a person asks for, each with its line

-- [dark]
abbrev pub book_of : Words → Result Book Misread
book_of ws =
    if length ws == 0 then Ok Integrated
    else if (length ws == 1) && bytes_eq (text ws 0) (codes "dark") then Ok DarkMidpoint
    else Err why.Count

-- [marked] [dark]
unfoldable pub marked_of : Words → Result (Bool × Book) Misread
marked_of ws =
    if nat_le 1 (length ws) && bytes_eq (text ws 0) (codes "marked")
    then (book_of (drop 1 ws) then λ b. Ok (true, b))
    else (book_of ws then λ b. Ok (false, b))

-- [ioc] [marked] [dark]
unfoldable pub behind_of : Words → Result (Lifetime × (Bool × Book)) Misread
behind_of ws =
    if nat_le 1 (length ws) && bytes_eq (text ws 0) (codes "ioc")
    then (marked_of (drop 1 ws) then λ m. Ok (ImmediateOrCancel, m))
    else (marked_of ws then λ m. Ok (Day, m))

-- [ioc] [dark]
unfoldable pub waits_of : Words → Result (Lifetime × Book) Misread
waits_of ws =
    if nat_le 1 (length ws) && bytes_eq (text ws 0) (codes "ioc")
    then (book_of (drop 1 ws) then λ b. Ok (ImmediateOrCancel, b))
    else (book_of ws then λ b. Ok (Day, b))

-- buy|sell LINE SYMBOL QTY PRICE|market CLIENTID [ioc] [marked] [dark]
abbrev pub order_of : Side → Words → Result Command Misread
order_of s ws =
    of_least 6 ws (
    line_of (text ws 1) then λ line. shares_of (text ws 3) then λ shares. pricing_of (text ws 4) then λ pricing.
    behind_of (drop 6 ws) then λ b. Ok (command.Request line
    (request.Order s (word ws 2) shares pricing (word ws 5) b.0 b.1.0 b.1.1)))

-- cancel LINE SYMBOL SIDE CLIENTID ORIGINAL [dark]
abbrev pub cancel_of : Words → Result Command Misread
cancel_of ws =
    of_least 6 ws (book_of (drop 6 ws) then λ b. line_of (text ws 1) then λ line. side_of (text ws 3)
    then λ s. Ok (command.Request line (request.Cancel (word ws 2) s (word ws 4) (word ws 5) b)))

-- replace LINE SYMBOL SIDE QTY PRICE CLIENTID ORIGINAL [ioc] [dark]
abbrev pub replace_of : Words → Result Command Misread
replace_of ws =
    of_least 8 ws (waits_of (drop 8 ws) then λ w.
    line_of (text ws 1) then λ line. side_of (text ws 3) then λ s. shares_of (text ws 4) then λ shares.
    price_of (text ws 5) then λ price. Ok (command.Request line
    (request.Replace (word ws 2) s shares price (word ws 6) (word ws 7) w.0 w.1)))

abbrev pub firm_of : List ℕ → Result Bool Misread
firm_of w = if bytes_eq w (codes "own") then Ok false else if bytes_eq w (codes "firm") then Ok true else Err why.Scope

unfoldable pub scope_of : Words → Result Scope Misread
scope_of ws =
    if length ws == 0 then Ok scope.All
    else if (length ws == 2) && bytes_eq (text ws 0) (codes "instrument")
    then Ok (scope.Instrument (word ws 1) Integrated)
    else if (length ws == 3) && (bytes_eq (text ws 0) (codes "instrument") && bytes_eq (text ws 2) (codes "dark"))
    then Ok (scope.Instrument (word ws 1) DarkMidpoint)
    else if (length ws == 2) && bytes_eq (text ws 0) (codes "segment") then Ok (scope.Segment (word ws 1))
    else Err why.Scope

-- .. LINE CLIENTID own|firm [instrument SYMBOL [dark] | segment SEGMENT]
abbrev pub mass_said : Words → Result (ℕ × Request) Misread
mass_said ws =
    of_least 4 ws (
    line_of (text ws 1) then λ line. firm_of (text ws 3) then λ firm. scope_of (drop 4 ws) then λ s.
    Ok (line, request.MassCancel (word ws 2) firm s))

abbrev pub mass_cancel_of : Words → Result Command Misread
mass_cancel_of ws = mass_said ws then λ m. Ok (command.Request m.0 m.1)

abbrev pub preview_mass_cancel_of : Words → Result Command Misread
preview_mass_cancel_of ws = mass_said ws then λ m. Ok (command.PreviewRequest m.0 m.1)

-- preview LINE HEX
abbrev pub preview_of : Words → Result Command Misread
preview_of ws =
    of_count 3 ws (line_of (text ws 1) then λ line. bytes_said (word ws 2) then λ bytes. Ok (command.Preview line bytes))

-- missed LINE PARTITION LAST
abbrev pub missed_of : Words → Result Command Misread
missed_of ws =
    of_count 4 ws (
    line_of (text ws 1) then λ line. app_of (text ws 2) then λ partition. small_of (text ws 3) then λ last.
    Ok (command.Request line (request.Missed partition last)))

-- print hex|text
abbrev pub style_of : Words → Result Command Misread
style_of ws =
    if (length ws == 2) && bytes_eq (text ws 1) (codes "hex") then Ok (command.Print style.Hex)
    else if (length ws == 2) && bytes_eq (text ws 1) (codes "text") then Ok (command.Print style.Text)
    else Err why.Style

-- midpoint INSTRUMENT PRICE|none
abbrev pub midpoint_said : List ℕ → Result (Option Price) Misread
midpoint_said w = if bytes_eq w (codes "none") then Ok None else (price_of w then λ p. Ok (Some p))

abbrev pub midpoint_of : Words → Result Command Misread
midpoint_of ws =
    of_count 3 ws (number_of (text ws 1) then λ i. midpoint_said (text ws 2) then λ p. Ok (command.Midpoint i p))

-- ---- all of them, by the first word

abbrev pub by_verb : Verb → Bor Words → Result Command Misread
by_verb verb.CompId ws = comp_id_of ws.now
by_verb verb.Instrument ws = instrument_of ws.now
by_verb verb.Matcher ws = matcher_of ws
by_verb verb.Store ws = store_of ws.now
by_verb verb.Start ws = alone_of ws.now (command.Setup setup.Start)
by_verb verb.RealTime ws = real_time_of ws.now
by_verb verb.Recovery ws = recovery_of ws.now
by_verb verb.Step ws = at_time ws.now then λ t. Ok (command.Call (call.Step t))
by_verb verb.CancelTrade ws = cancel_trade_of ws.now
by_verb verb.LineLost ws = line_lost_of ws.now
by_verb verb.Send ws = on_line ws.now then λ line. Ok (command.Call (call.Send line))
by_verb verb.SendRecovered ws = on_line ws.now then λ line. Ok (command.Call (call.SendRecovered line))
by_verb verb.Orders ws = alone_of ws.now command.Orders
by_verb verb.Show ws = show_of ws.now
by_verb verb.Time ws = at_time ws.now then λ t. Ok (command.Clock t)
by_verb verb.Print ws = style_of ws.now
by_verb verb.Run ws = alone_of ws.now command.Run
by_verb verb.Drain ws = on_line ws.now then λ line. Ok (command.Drain line)
by_verb verb.Download ws = on_line ws.now then λ line. Ok (command.Download line)
by_verb verb.Logon ws = on_line ws.now then λ line. Ok (command.Request line request.Logon)
by_verb verb.Recover ws = on_line ws.now then λ line. Ok (command.Request line request.Recover)
by_verb verb.Logout ws = on_line ws.now then λ line. Ok (command.Request line request.Logout)
by_verb verb.Buy ws = order_of side.Buy ws.now
by_verb verb.Sell ws = order_of side.Sell ws.now
by_verb verb.Cancel ws = cancel_of ws.now
by_verb verb.Replace ws = replace_of ws.now
by_verb verb.MassCancel ws = mass_cancel_of ws.now
by_verb verb.Preview ws = preview_of ws.now
by_verb verb.PreviewMassCancel ws = preview_mass_cancel_of ws.now
by_verb verb.Missed ws = missed_of ws.now
by_verb verb.Follow ws = on_line ws.now then λ line. Ok (command.Setup (setup.Follow line))
by_verb verb.Up ws = alone_of ws.now (command.Desk desk.Up)
by_verb verb.Live ws = live_of ws.now
by_verb verb.Ask ws = ask_of ws.now
by_verb verb.Recovered ws = recovered_of ws.now
by_verb verb.Lost ws = alone_of ws.now (command.Desk desk.Lost)
by_verb verb.Follower ws = alone_of ws.now command.Follower
by_verb verb.Deliver ws = deliver_of ws.now
by_verb verb.Repeat ws = repeat_of ws.now
by_verb verb.Pull ws = alone_of ws.now (command.Cable cable.Pull)
by_verb verb.Reconnect ws = alone_of ws.now (command.Cable cable.Reconnect)
by_verb verb.Catch ws = catch_of ws.now
by_verb verb.Midpoint ws = midpoint_of ws.now

abbrev pub of_verb : Option Verb → Bor Words → Result Command Misread
of_verb None ws = Err why.Name
of_verb (Some v) ws = by_verb v ws

abbrev pub command_of : Bor Words → Result Command Misread
command_of ws = if length ws.now == 0 then Err why.Name else of_verb (verb_of (text ws.now 0)) ws

-- what calls the gateway or the follower
abbrev pub is_call : Command → Bool
is_call (command.Call c) = true
is_call (command.Desk d) = true
is_call (command.Cable c) = true
is_call (command.Request line r) = true
is_call command.Run = true
is_call (command.Drain line) = true
is_call (command.Download line) = true
is_call (command.Midpoint i p) = true
is_call c = false
