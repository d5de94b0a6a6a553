-- Devices that are to be told from the module by what a scale is promised (request [8]). Assumes nothing.
use Rattle.std.specs.Prelude.{cond, ◌&&◌, [], ◌∷◌, ◌++◌, reverse, ℕ, ◌+◌, ◌-◌, ◌^◌, leb, ltb, eqb, length, take, get_or}
use Rattle.octets.specs.Octets.{put, number, bytes, zeros}
use Rattle.wire.specs.Completion.{posted}
use Rattle.scratch.specs.Calls.{Task, reading, writing, filling, slices, ended}
use Rattle.scales.specs.Histories.{asked, Device, ours, told, done, writes}

-- number 0 and a status, with nothing moved
abbrev says : ℕ → Device
says st c m = ended 0 (slices (posted c.post (asked c).cid st 0) c.buffer m)

-- its sum of start and length has 64 bits
abbrev pub wrapping : Device
wrapping c m = cond (leb (2 ^ 64) ((asked c).start + (asked c).len)) (says 0x00 c m) (ours c m)

-- it looks for a data buffer before it looks for the memory's end
abbrev pub room_first : Device
room_first c m = cond (ltb (length c.buffer) (asked c).len && ltb (length m) ((asked c).start + (asked c).len)) (says 0x04 c m) (ours c m)

-- it clears the data buffer behind what was read
abbrev pub clearing : Device
clearing c m =
    let o = ours c m in
    let b = take (asked c).len o.after.buffer in
    cond (done (told c o)) (ended 0 (slices o.after.completion (b ++ zeros (length c.buffer - length b)) o.after.memory)) o

-- it fills with the bytes of the word the other way round
abbrev turned : Task → Task
turned reading = reading
turned writing = writing
turned (filling w) = filling (number (reverse (bytes 4 w)))

abbrev pub high_first : Device
high_first c m =
    ours (record { task = turned c.task; post = c.post; id = c.id; entry = c.entry; completion = c.completion; buffer = c.buffer }) m

-- it says that it has written
abbrev pub lazy : Device
lazy c m = cond (writes c.task && done (told c (ours c m))) (says 0x00 c m) (ours c m)

-- it writes the memory's first byte besides
abbrev pub spilling : Device
spilling c m =
    let o = ours c m in
    cond (writes c.task && done (told c o)) (ended 0 (slices o.after.completion o.after.buffer (put 0 (0 ∷ []) o.after.memory))) o

-- it wants the opcode that the source has for the command
abbrev opcode_of : Task → ℕ
opcode_of reading = 0x02
opcode_of writing = 0x05
opcode_of (filling w) = 0x00

abbrev pub strict : Device
strict c m = cond (eqb (get_or c.entry 0 0) (opcode_of c.task)) (ours c m) (says 0x01 c m)
