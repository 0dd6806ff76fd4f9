use Rattle.std.proofs.Common.{◌≡◌, ◌-◌, length, take, drop, rules, ap, ◌∙◌, arith}
use Rattle.std.proofs.lemmas.List.{length-drop, take_all}
use Rattle.bench_words.specs.Commands.{behind_of, marked_of}
use Rattle.bench_words.specs.Lines.{Words}
use Rattle.bench_words.proofs.command.behind.Goals as goal

-- all that stands behind the first word
rest : (ws : Words) → take (length ws - 1) (drop 1 ws) ≡ drop 1 ws
rest ws = let d = length-drop 1 ws in take_all (length ws - 1) (drop 1 ws) (omega arith)

pub returns-in_err-marked-in-ioc : goal.returns-in_err-marked-in-ioc
unfolding behind_of
returns-in_err-marked-in-ioc c =
    let h : c.marked.result ≡ marked_of (drop 1 c.args.words.now) =
    c.marked.ensures ∙ ap marked_of (rest c.args.words.now) in
    search rules

pub returns-in_err-marked-in_default : goal.returns-in_err-marked-in_default
unfolding behind_of
returns-in_err-marked-in_default c = search rules

pub returns-in_ok-marked-in-ioc : goal.returns-in_ok-marked-in-ioc
unfolding behind_of
returns-in_ok-marked-in-ioc c =
    let h : c.marked.result ≡ marked_of (drop 1 c.args.words.now) =
    c.marked.ensures ∙ ap marked_of (rest c.args.words.now) in
    search rules

pub returns-in_ok-marked-in_default : goal.returns-in_ok-marked-in_default
unfolding behind_of
returns-in_ok-marked-in_default c = search rules
