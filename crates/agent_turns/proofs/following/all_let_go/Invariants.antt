use Rattle.std.proofs.Common.{◌≡◌, drop}
use Rattle.agent_turns.specs.Following.{all_let_go}
use Rattle.agent_turns.proofs.following.all_let_go.Given as goal

abbrev pub invariant-loop-series : goal.invariant-loop-series
invariant-loop-series l = all_let_go l.held.keys l.kept.entries (drop l.series-index l.scraped) ≡ all_let_go l.held.keys l.fn.kept.entries l.scraped
