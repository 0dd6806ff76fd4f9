-- How what is not understood of a line is told. Assumes nothing.
use Rattle.std.specs.Prelude.{ℕ, List, codes}
use Rattle.bench_words.specs.declared.misread.Misread.{Misread}
use Rattle.bench_words.specs.declared.misread.Misread.TheVariants as why

abbrev pub sentence_of : Misread → List ℕ
sentence_of why.Text = codes "not understood: the line is no text"
sentence_of why.Name = codes "not understood: no command has this name"
sentence_of why.Count = codes "not understood: the command has fewer or more words"
sentence_of why.Line = codes "not understood: the line is no whole number"
sentence_of why.Time = codes "not understood: the time is not SECONDS.MICROSECONDS"
sentence_of why.Bytes = codes "not understood: the bytes are not pairs of hex digits"
sentence_of why.Number = codes "not understood: a number is not whole, or is too large"
sentence_of why.YesOrNo = codes "not understood: neither yes nor no"
sentence_of why.Side = codes "not understood: the side is neither buy nor sell"
sentence_of why.Price = codes "not understood: the price is neither market nor a decimal number of up to 8 places"
sentence_of why.Quantity = codes "not understood: the quantity is not whole, or is too large"
sentence_of why.Matcher = codes "not understood: the matcher is neither lit nor tape"
sentence_of why.Store = codes "not understood: the store is neither records nor wire, with one number"
sentence_of why.Style = codes "not understood: messages are shown as hex or as text"
sentence_of why.Delivery = codes "not understood: nothing is delivered but live and recovered messages"
sentence_of why.Tape = codes "not understood: a line of the tape is not ORDER,QTY,PRICE"
sentence_of why.Scope = codes "not understood: what is cancelled is none of own, firm, instrument and segment"
sentence_of why.Symbol = codes "not understood: the symbol has more than 6 characters, or others than printable ones"
sentence_of why.Segment = codes "not understood: the segment has more than 4 characters, or others than printable ones"
sentence_of why.ClientId =
    codes "not understood: the client order id has more than 20 characters, or others than printable ones"
sentence_of why.NotStarted = codes "not understood: the gateway is not started"
sentence_of why.Started = codes "not understood: the gateway is started already"
sentence_of why.NoFollower = codes "not understood: no line is followed"
