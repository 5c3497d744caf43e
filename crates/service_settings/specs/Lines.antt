-- The text of each fault: the way to the member, and what is wrong with it.
use Rattle.std.specs.Prelude.{ℕ, List, ◌++◌, codes}
use Rattle.std.specs.Fmt.{decimal}
use Rattle.service_settings.specs.declared.error.SettingsError.{SettingsError}
use Rattle.service_settings.specs.declared.error.SettingsError.TheVariants.{NotJson, Shape, Unknown, RepeatedCollector, Memory}
use Rattle.service_settings.specs.declared.error.Member.{Member}
use Rattle.service_settings.specs.declared.error.Member.TheVariants.{Document, Global, ScrapeInterval, ScrapeConfigs, ScrapeConfig, HttpSdConfigs, HttpSdConfig, RefreshInterval, JobSpread, Allocator, Listen, Lifecycle, LifecycleReload, LifecycleQuit, Journal, Keep, Settle, GiveUp, Connections, ReportRounds, Hosts, Host, Tokens, AdminTokens, CollectorTokens, OpenToAll, AllowNoJobs, Collectors, Collector, CollectorName, CollectorReach, CollectorLimits, JoinByAsking, JoiningPattern, Pattern, PatternReach, PatternLimits, ReachChanges, Rejoin, CollectorTimeout, Handover, Acknowledge, ReleaseAfter, Spread, Slack, MostMoves, FetchTimeout}

-- without indices
abbrev pub member_path : Member → List ℕ
member_path Document = codes "document"
member_path Global = codes "global"
member_path ScrapeInterval = codes "global.scrape_interval"
member_path ScrapeConfigs = codes "scrape_configs"
member_path (ScrapeConfig job) = codes "scrape_configs"
member_path (HttpSdConfigs job) = codes "scrape_configs"
member_path (HttpSdConfig job entry) = codes "scrape_configs"
member_path (RefreshInterval job entry) = codes "scrape_configs"
member_path (JobSpread job) = codes "scrape_configs"
member_path Allocator = codes "allocator"
member_path Listen = codes "allocator.listen"
member_path Lifecycle = codes "allocator.lifecycle"
member_path LifecycleReload = codes "allocator.lifecycle.reload"
member_path LifecycleQuit = codes "allocator.lifecycle.quit"
member_path Journal = codes "allocator.journal"
member_path Keep = codes "allocator.keep"
member_path Settle = codes "allocator.settle"
member_path GiveUp = codes "allocator.give_up"
member_path Connections = codes "allocator.connections"
member_path ReportRounds = codes "allocator.report_rounds"
member_path Hosts = codes "allocator.hosts"
member_path (Host index) = codes "allocator.hosts"
member_path Tokens = codes "allocator.tokens"
member_path AdminTokens = codes "allocator.tokens.admin"
member_path CollectorTokens = codes "allocator.tokens.collectors"
member_path OpenToAll = codes "allocator.open_to_all"
member_path AllowNoJobs = codes "allocator.allow_no_jobs"
member_path Collectors = codes "allocator.collectors"
member_path (Collector index) = codes "allocator.collectors"
member_path (CollectorName index) = codes "allocator.collectors"
member_path (CollectorReach index) = codes "allocator.collectors"
member_path (CollectorLimits index) = codes "allocator.collectors"
member_path JoinByAsking = codes "allocator.join_by_asking"
member_path (JoiningPattern index) = codes "allocator.join_by_asking"
member_path (Pattern index) = codes "allocator.join_by_asking"
member_path (PatternReach index) = codes "allocator.join_by_asking"
member_path (PatternLimits index) = codes "allocator.join_by_asking"
member_path ReachChanges = codes "allocator.reach_changes"
member_path Rejoin = codes "allocator.rejoin"
member_path CollectorTimeout = codes "allocator.collector_timeout"
member_path Handover = codes "allocator.handover"
member_path Acknowledge = codes "allocator.acknowledge"
member_path ReleaseAfter = codes "allocator.release_after"
member_path Spread = codes "allocator.spread"
member_path Slack = codes "allocator.spread.slack"
member_path MostMoves = codes "allocator.spread.most_moves"
member_path FetchTimeout = codes "allocator.fetch_timeout"

-- the way to the member from the document
abbrev pub member_text : Member → List ℕ
member_text (ScrapeConfig job) = codes "scrape_configs[" ++ (decimal job ++ codes "]")
member_text (HttpSdConfigs job) = codes "scrape_configs[" ++ (decimal job ++ codes "].http_sd_configs")
member_text (HttpSdConfig job entry) = codes "scrape_configs[" ++ (decimal job ++ (codes "].http_sd_configs[" ++ (decimal entry ++ codes "]")))
member_text (RefreshInterval job entry) = codes "scrape_configs[" ++ (decimal job ++ (codes "].http_sd_configs[" ++ (decimal entry ++ codes "].refresh_interval")))
member_text (JobSpread job) = codes "scrape_configs[" ++ (decimal job ++ codes "].spread")
member_text (Host index) = codes "allocator.hosts[" ++ (decimal index ++ codes "]")
member_text (Collector index) = codes "allocator.collectors[" ++ (decimal index ++ codes "]")
member_text (CollectorName index) = codes "allocator.collectors[" ++ (decimal index ++ codes "].name")
member_text (CollectorReach index) = codes "allocator.collectors[" ++ (decimal index ++ codes "].reach")
member_text (CollectorLimits index) = codes "allocator.collectors[" ++ (decimal index ++ codes "].limits")
member_text (JoiningPattern index) = codes "allocator.join_by_asking[" ++ (decimal index ++ codes "]")
member_text (Pattern index) = codes "allocator.join_by_asking[" ++ (decimal index ++ codes "].pattern")
member_text (PatternReach index) = codes "allocator.join_by_asking[" ++ (decimal index ++ codes "].reach")
member_text (PatternLimits index) = codes "allocator.join_by_asking[" ++ (decimal index ++ codes "].limits")
member_text other = member_path other

-- what the member is not
abbrev pub missing : Member → List ℕ
missing Document = codes "no object"
missing Global = codes "no object"
missing ScrapeInterval = codes "no duration above 0"
missing ScrapeConfigs = codes "no list"
missing (ScrapeConfig job) = codes "no object"
missing (HttpSdConfigs job) = codes "no list"
missing (HttpSdConfig job entry) = codes "no object"
missing (RefreshInterval job entry) = codes "no duration above 0"
missing (JobSpread job) = codes "neither \"off\" nor a whole number from 0 to 1000"
missing Allocator = codes "no object"
missing Listen = codes "no address with a port"
missing Lifecycle = codes "neither true nor false nor an object"
missing LifecycleReload = codes "neither true nor false"
missing LifecycleQuit = codes "neither true nor false"
missing Journal = codes "no text"
missing Keep = codes "no whole number of 32 bits"
missing Settle = codes "no duration"
missing GiveUp = codes "no duration above 0"
missing Connections = codes "no whole number from 64 to 65535"
missing ReportRounds = codes "no whole number from 1 to 64"
missing Hosts = codes "no list"
missing (Host index) = codes "no name of a host in small letters, without a port"
missing Tokens = codes "no object"
missing AdminTokens = codes "no path of a file"
missing CollectorTokens = codes "no path of a file"
missing OpenToAll = codes "neither true nor false"
missing AllowNoJobs = codes "neither true nor false"
missing Collectors = codes "no list"
missing (Collector index) = codes "no object"
missing (CollectorName index) = codes "no name of a collector"
missing (CollectorReach index) = codes "no list of reach rules"
missing (CollectorLimits index) = codes "no object of limits"
missing JoinByAsking = codes "no list"
missing (JoiningPattern index) = codes "no object"
missing (Pattern index) = codes "no pattern of collectors' names"
missing (PatternReach index) = codes "no list of reach rules"
missing (PatternLimits index) = codes "no object of limits"
missing ReachChanges = codes "neither \"drained\" nor \"now\""
missing Rejoin = codes "neither true nor false"
missing CollectorTimeout = codes "no duration above 0"
missing Handover = codes "neither \"ordered\" nor \"free\""
missing Acknowledge = codes "no host with a port"
missing ReleaseAfter = codes "neither a duration above 0 nor \"never\""
missing Spread = codes "no object"
missing Slack = codes "no whole number from 0 to 1000"
missing MostMoves = codes "no whole number of 32 bits above 0"
missing FetchTimeout = codes "no duration above 0"

abbrev pub error_line : SettingsError → List ℕ
error_line NotJson = codes "no JSON"
error_line (Shape member) = (member_text member ++ codes ": ") ++ missing member
error_line (Unknown member name) = ((member_text member ++ codes ".") ++ name) ++ codes ": unknown member"
error_line (RepeatedCollector index) = codes "allocator.collectors[" ++ (decimal index ++ codes "].name: the name of an earlier collector")
error_line Memory = codes "no memory"
