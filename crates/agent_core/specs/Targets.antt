-- When two series, and two targets of lists, are the same.
use Rattle.std.specs.Prelude.{Bool, ◌==◌, ◌&&◌}
use Rattle.std.specs.Str.{bytes_eq}
use Rattle.agent_core.specs.declared.target.Series.{Series}
use Rattle.agent_core.specs.declared.target.Listed.{Listed}

-- a text decides the labels
abbrev pub same_series : Series → Series → Bool
same_series a b = bytes_eq a.labels b.labels

-- one group in one job, whatever the numbers
abbrev pub same_group : Listed → Listed → Bool
same_group a b = (a.job == b.job) && bytes_eq a.group b.group
