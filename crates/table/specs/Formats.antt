-- The sixteen formats. Assumes nothing.
use Rattle.std.specs.Prelude.{ℕ, ◌+◌, ◌*◌, ◌/◌, ◌%◌, ◌^◌}
use Rattle.table.specs.declared.formats.Format.{Format}

-- the limits of format i, with q = i / 4 rounded down: key max 4, 8, 12, 16 by i mod 4; value max 64, 256, 1024, 4096 and max keys
-- 1024, 256, 64, 16 by q
abbrev pub format_of : ℕ → Format
format_of i = record { keymax = 4 * (i % 4 + 1); valuemax = 64 * 4 ^ (i / 4); maxkeys = 1024 / 4 ^ (i / 4) }

-- slots for keys
abbrev pub slots : ℕ → ℕ
slots i = (format_of i).maxkeys
