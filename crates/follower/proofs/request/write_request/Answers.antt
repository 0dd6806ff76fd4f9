use Rattle.std.proofs.lemmas.Result.{MatchResult-at_ok}
use Rattle.follower.proofs.Requests.{read_back, wrote}
use Rattle.follower.proofs.request.write_request.Goals as goal

pub returns-clause-bytes : goal.returns-clause-bytes
returns-clause-bytes c =
    let w = MatchResult-at_ok _ _ c.unwrap.result c.unwrap.ensures c.write.ensures.bytes in
    wrote c.args.partition c.args.place.now c.request.result c.request.ensures.partition c.request.ensures.last
    c.unwrap.result c.args.out.now c.write.new.out w.0 w.2

pub returns-clause-back : goal.returns-clause-back
returns-clause-back c =
    let w = MatchResult-at_ok _ _ c.unwrap.result c.unwrap.ensures c.write.ensures.back in
    read_back c.args.partition c.args.place.now c.request.result c.request.ensures.partition c.request.ensures.last w
