-- The names of members at each place, and the way to a member. The tables stand in `src/tables.rt`.
use Rattle.std.specs.Prelude.{ℕ, List, ◌++◌, map, codes}
use Rattle.std.specs.Fmt.{decimal}
use Rattle.config_members.specs.declared.place.Place.{Place}
use Rattle.config_members.specs.declared.place.Place.TheVariants.{Document, Global, Job, Entry}
use Rattle.config_members.specs.declared.place.Part.{Part}
use Rattle.config_members.specs.declared.place.Part.TheVariants.{StaticConfigs, HttpSdConfigs, FileSdConfigs, RelabelConfigs}
use Rattle.config_members.specs.declared.tables.TheConstants.{DOCUMENT_READ, DOCUMENT_OTHERS, GLOBAL_READ, GLOBAL_OTHERS, JOB_READ, JOB_OTHERS, GROUP_READ, SOURCE_READ, SOURCE_OTHERS, FILES_READ, RULE_READ, NO_OTHERS}

-- what is read here
abbrev pub names_read : Place → List (List ℕ)
names_read Document = map (λ s. s.now) DOCUMENT_READ
names_read Global = map (λ s. s.now) GLOBAL_READ
names_read (Job job) = map (λ s. s.now) JOB_READ
names_read (Entry job StaticConfigs entry) = map (λ s. s.now) GROUP_READ
names_read (Entry job HttpSdConfigs entry) = map (λ s. s.now) SOURCE_READ
names_read (Entry job FileSdConfigs entry) = map (λ s. s.now) FILES_READ
names_read (Entry job RelabelConfigs entry) = map (λ s. s.now) RULE_READ

-- what Prometheus has there besides
abbrev pub other_names : Place → List (List ℕ)
other_names Document = map (λ s. s.now) DOCUMENT_OTHERS
other_names Global = map (λ s. s.now) GLOBAL_OTHERS
other_names (Job job) = map (λ s. s.now) JOB_OTHERS
other_names (Entry job StaticConfigs entry) = map (λ s. s.now) NO_OTHERS
other_names (Entry job HttpSdConfigs entry) = map (λ s. s.now) SOURCE_OTHERS
other_names (Entry job FileSdConfigs entry) = map (λ s. s.now) NO_OTHERS
other_names (Entry job RelabelConfigs entry) = map (λ s. s.now) NO_OTHERS

-- ---- the way to a member from the document

abbrev pub part_name : Part → List ℕ
part_name StaticConfigs = codes "static_configs"
part_name HttpSdConfigs = codes "http_sd_configs"
part_name FileSdConfigs = codes "file_sd_configs"
part_name RelabelConfigs = codes "relabel_configs"

abbrev pub member_way : Place → List ℕ → List ℕ
member_way Document name = name
member_way Global name = codes "global." ++ name
member_way (Job job) name = codes "scrape_configs[" ++ (decimal job ++ (codes "]." ++ name))
member_way (Entry job part entry) name =
    codes "scrape_configs[" ++ (decimal job ++ (codes "]." ++ (part_name part ++ (codes "[" ++ (decimal entry ++ (codes "]." ++ name))))))
