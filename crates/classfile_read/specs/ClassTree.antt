-- The parts of a class file, as the reader holds them, as a tree.
use Rattle.classfile_read.specs.declared.class.Parts.{Parts}
use Rattle.class_tree.specs.Trees.{Tree}

abbrev pub tree : Parts → Tree
tree c = record { minor = c.minor; major = c.major; pool = c.pool; flags = c.flags; this_class = c.this_class; super_class = c.super_class; interfaces = c.interfaces; fields = c.fields; methods = c.methods; attrs = c.attrs }
