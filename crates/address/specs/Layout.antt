-- The sizes of 01's "Addresses", each named once.
use Rattle.std.specs.Prelude.{ℕ, ◌^◌}

-- a segment's bytes, a page's, a line's
abbrev pub segment_bytes : ℕ
segment_bytes = 2 ^ 22

abbrev pub page_bytes : ℕ
page_bytes = 4096

abbrev pub line_bytes : ℕ
line_bytes = 16

-- the lines of a page
abbrev pub page_lines : ℕ
page_lines = 256

-- the bytes under one prefix, and the lines
abbrev pub prefix_bytes : ℕ
prefix_bytes = 2 ^ 32

abbrev pub prefix_lines : ℕ
prefix_lines = 2 ^ 28

-- a global address is below this
abbrev pub global_end : ℕ
global_end = 2 ^ 44

-- an effective address from here up is the kernel's
abbrev pub kernel_start : ℕ
kernel_start = 2 ^ 31

-- the page table region: global / 2^34 = 1023
abbrev pub table_bytes : ℕ
table_bytes = 2 ^ 34

abbrev pub table_index : ℕ
table_index = 1023

-- the slots of a process
abbrev pub process_slots : ℕ
process_slots = 512

-- the segments that may be attached
abbrev pub first_segment : ℕ
first_segment = 2048

abbrev pub last_segment : ℕ
last_segment = 4190207

-- a page is below this: it has 32 bits
abbrev pub page_end : ℕ
page_end = 2 ^ 32

-- the ordinary pages
abbrev pub first_page : ℕ
first_page = 0x200000

abbrev pub last_page : ℕ
last_page = 0xFFBFFFFF
