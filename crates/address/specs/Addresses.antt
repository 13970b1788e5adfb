-- 01, "Addresses": a definition for each sentence, in its order.
-- The three kinds of address are three types, in the code and here.
use Rattle.std.specs.Prelude.{ℕ, ◌+◌, ◌*◌, ◌/◌, ◌%◌, Bool, ◌&&◌, cond, eqb, leb}
use Rattle.address.specs.Layout.{segment_bytes, page_bytes, line_bytes, page_lines, prefix_bytes, kernel_start, table_bytes, table_index, first_segment, last_segment, first_page, last_page}
use Rattle.address.specs.declared.Effective.{Effective}
use Rattle.address.specs.declared.Global.{Global}
use Rattle.address.specs.declared.Physical.{Physical}
use Rattle.address.specs.declared.Region.{Region}
use Rattle.address.specs.declared.Region.TheVariants.{Uncached, Cached, PageTable, Ordinary}

-- an address of each kind, by its number
abbrev pub effective : ℕ → Effective
effective n = record { 0 = n }

abbrev pub global : ℕ → Global
global n = record { 0 = n }

abbrev pub physical : ℕ → Physical
physical n = record { 0 = n }

-- slot = effective / 2^22; offset = effective mod 2^22
abbrev pub slot_of : Effective → ℕ
slot_of e = e.0 / segment_bytes

abbrev pub offset_of : Effective → ℕ
offset_of e = e.0 % segment_bytes

-- global = segment × 2^22 + offset
abbrev pub global_of : ℕ → Effective → Global
global_of segment e = global (segment * segment_bytes + offset_of e)

-- page = global / 4096; line name = global / 16; physical line = physical / 16
abbrev pub page_of : Global → ℕ
page_of g = g.0 / page_bytes

abbrev pub name_of : Global → ℕ
name_of g = g.0 / line_bytes

abbrev pub physical_line_of : Physical → ℕ
physical_line_of p = p.0 / line_bytes

-- the frame of a physical address
abbrev pub frame_of_physical : Physical → ℕ
frame_of_physical p = p.0 / page_bytes

-- prefix = global / 2^32
abbrev pub prefix_of : Global → ℕ
prefix_of g = g.0 / prefix_bytes

-- prefix 0: uncached physical; prefix 1: cached physical; global / 2^34 = 1023: page table region; all else is ordinary
unfoldable pub region_of : Global → Region
region_of g =
    cond (eqb (prefix_of g) 0) Uncached (cond (eqb (prefix_of g) 1) Cached
    (cond (eqb (g.0 / table_bytes) table_index) PageTable Ordinary))

-- in prefixes 0 and 1 the physical address is global mod 2^32
abbrev pub physical_of : Global → Physical
physical_of g = physical (g.0 % prefix_bytes)

-- in a page that is mapped to a frame, the physical address lies in that frame, at the same offset
abbrev pub in_frame : ℕ → Global → Physical
in_frame frame g = physical (frame * page_bytes + g.0 % page_bytes)

-- the entry for a page stands at 1023 × 2^34 + 4 × page; who asks for it may be refused (Entries.antt)
abbrev pub entry_of : ℕ → Global
entry_of page = global (table_index * table_bytes + 4 * page)

-- effective addresses from 2^31 up are the kernel's
abbrev pub is_kernels : Effective → Bool
is_kernels e = leb kernel_start e.0

-- a segment that may be attached runs from 2048 to 4,190,207
abbrev pub attachable : ℕ → Bool
attachable segment = leb first_segment segment && leb segment last_segment

-- ordinary pages: 0x200000 to 0xFFBFFFFF
abbrev pub ordinary_page : ℕ → Bool
ordinary_page page = leb first_page page && leb page last_page

-- the page of a line name: name / 256
abbrev pub page_of_name : ℕ → ℕ
page_of_name name = name / page_lines
