-- What a disk is made of.
-- Source: project's choice.
use Rattle.std.specs.Prelude.{ℕ}
use Rattle.nll_report.specs.declared.disk.Disk.{Disk}

-- the runtime whose files a disk gives
abbrev pub runtime_of : {R : Type 0} → Disk R → R
runtime_of disk = disk.rt.now

-- how many bytes of a file are read at most: one more than a text may have
abbrev pub read_limit : ℕ
read_limit = 67108865
